-- For who reads by a schema that they know: which answer comes where a kind is here.
use Rattle.std.proofs.Common.{arith, ◌≡◌, ℕ, ℤ, Bool, List, Some, Bor}
use Rattle.fb_schema.specs.declared.{kinds.Scalar.Scalar, kinds.Kind.Kind, kinds.Kind.TheVariants.Scalar as AScalar, kinds.Kind.TheVariants.Text as AText, kinds.Kind.TheVariants.Table as ATable}
use Rattle.fb_schema.specs.declared.kinds.Scalar.TheVariants.{UType, Bool as AsBool, UByte, UShort, UInt as AsUInt, ULong, Double}
use Rattle.fb_schema.specs.Rows.{Rows}
use Rattle.fb_access.specs.declared.answer.Answer.TheVariants as answer
use Rattle.fb_access.specs.{Fitting.element_kind, Here.IsHere, Here.MayBeHere, Here.IsSigned, declared.spot.Spot.Spot, declared.answer.Answer.Answer}
use Rattle.fb_access.specs.Denotes.{nothing, shown, number, inline_value, default_value, value}

-- a scalar that is shown as a truth value, and one that is as an unsigned number
abbrev pub IsTruth : Scalar → Type 0
IsTruth AsBool = Unit {0}
IsTruth _ = ⊥

abbrev pub IsUnsigned : Scalar → Type 0
IsUnsigned UType = Unit {0}
IsUnsigned UByte = Unit {0}
IsUnsigned UShort = Unit {0}
IsUnsigned AsUInt = Unit {0}
IsUnsigned ULong = Unit {0}
IsUnsigned _ = ⊥

-- where a kind is here, no other answer comes
module _ (b : List ℕ) (S : Rows) (p : Spot) (a : Answer) (e : shown a ≡ value b S p) where
  pub answers_text : IsHere p AText → ((x : Bor (List ℕ)) → a ≡ answer.Text x → ⊥) → ⊥
  unfolding value
  answers_text h other = grind arith

  pub answers_table : (k : ℕ) → IsHere p (ATable k) → (a ≡ answer.Table → ⊥) → ⊥
  unfolding value
  answers_table k h other = grind arith

  pub answers_vector : (kind onward : Kind) → IsHere p kind → element_kind kind ≡ Some onward → ((x : ℕ) → a ≡ answer.Vector x → ⊥) → ⊥
  unfolding value
  answers_vector kind onward h i other = grind arith

  pub answers_truth : (s : Scalar) → IsTruth s → IsHere p (AScalar s) → ((x : Bool) → a ≡ answer.Bool x → ⊥) → ⊥
  unfolding value number inline_value default_value
  answers_truth s i h other = grind arith

  pub answers_signed : (s : Scalar) → IsSigned s → IsHere p (AScalar s) → ((x : ℤ) → a ≡ answer.Int x → ⊥) → ⊥
  unfolding value number inline_value default_value
  answers_signed s i h other = grind arith

  pub answers_unsigned : (s : Scalar) → IsUnsigned s → IsHere p (AScalar s) → ((x : ℕ) → a ≡ answer.UInt x → ⊥) → ⊥
  unfolding value number inline_value default_value
  answers_unsigned s i h other = grind arith

  -- a Double is shown by its bytes, or by the bits of its default
  pub answers_double : IsHere p (AScalar Double) → ((x : Bor (List ℕ)) → a ≡ answer.Float x → ⊥) → ((n : ℕ) → a ≡ answer.DefaultDouble n → ⊥) → ⊥
  unfolding value number inline_value default_value
  answers_double h bytes bits = grind arith

-- a field that may be here shows nothing, or is here
module _ (b : List ℕ) (S : Rows) (p : Spot) (kind : Kind) where
  pub shows_nothing : MayBeHere p kind → (IsHere p kind → ⊥) → value b S p ≡ nothing
  unfolding value
  shows_nothing h away = grind arith

  pub is_here : MayBeHere p kind → (value b S p ≡ nothing → ⊥) → IsHere p kind
  unfolding value
  is_here h some = grind arith
