-- Small facts on numbers and lists that the other files share.
use Rattle.std.proofs.Common.{◌≡◌, ℕ, ◌<◌, ◌≤◌, ◌⊎◌, inl, inr, List, length, slice_get, Some, arith, Bool, true, false, not}
use Rattle.std.proofs.lemmas.Option.{slice_get_cases}
pub use Rattle.std.proofs.lemmas.List.{get_or_default}
pub use Rattle.std.proofs.lemmas.{Bool.and_from as all_true, Bool.and_parts as both_true, Option.slice_get_past}

pub lt_or_eq : (a b : ℕ) → a ≤ b → (a < b) ⊎ (a ≡ b)
lt_or_eq a b h = grind arith

pub le_or_lt : (a b : ℕ) → (a ≤ b) ⊎ (b < a)
le_or_lt a b = grind arith

pub slice_get_some : {X : Type 0} (xs : List X) (i : ℕ) → i < length xs → (x : X) × (slice_get xs i ≡ Some x)
slice_get_some xs i h = elim (slice_get_cases xs i).1 [ inl c ↦ (c.0, c.2) | inr c ↦ absurd (omega arith) ]

-- a number that is neither below another nor above it
pub neither_below : (i j : ℕ) → (i < j → ⊥) → (j < i → ⊥) → i ≡ j
neither_below i j a b = grind (arith, a, b)

-- what a test says that is true, or that is false
pub not_false : (b : Bool) → not b ≡ false → b ≡ true
not_false b h = grind arith

pub negated : (b : Bool) → not b ≡ true → b ≡ false
negated b h = grind arith

-- two tests that follow from one another
pub same_test : (a b : Bool) → (a ≡ true → b ≡ true) → (b ≡ true → a ≡ true) → a ≡ b
same_test a b f g = grind (arith, f, g)
