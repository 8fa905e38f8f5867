-- Vectors have no more elements than there is room for, and numbers fit their scalars.
use Rattle.std.proofs.Common.{◌≡◌, ℕ, ℤ, ◌*◌, ◌≤◌, ◌<◌, ◌^◌, ◌%◌, List, length, arith, w64}
use Rattle.std.specs.Int.{cast_unsigned}
use Rattle.std.proofs.Math.Facts.{sfits_to_z}
use Rattle.fb_schema.specs.{declared.kinds.Scalar.Scalar, declared.kinds.Scalar.TheVariants.Float, declared.kinds.Scalar.TheVariants.Double, Kinds.scalar_size}
use Rattle.fb_schema.specs.{declared.kinds.Kind.TheVariants.Tables, Rows.Rows}
use Rattle.fb_access.specs.{declared.spot.Spot.Spot, declared.answer.Answer.Answer, Denotes.vector, Denotes.value, Denotes.number, Denotes.default_value, Denotes.shown}
use Rattle.fb_access.specs.{Held.IsSpot, Here.IsHere, Here.FitsScalar}

pub tables_fit : (b : List ℕ) (S : Rows) (p : Spot) (k n : ℕ) → IsSpot b S p → IsHere p (Tables k) → vector n ≡ value b S p → 4 * n ≤ length b
unfolding IsSpot value
tables_fit b S p k n spot here v = grind arith

pub number_fits : (s : Scalar) (n : ℕ) (a : Answer) → n < 256 ^ scalar_size s → shown a ≡ number s n → FitsScalar s a
unfolding number
number_fits s n a less e = grind (arith, sfits_to_z)

-- the default of a scalar that is no float is its number
pub whole_default : (s : Scalar) (d : ℤ) → (s ≡ Float → ⊥) → (s ≡ Double → ⊥) → default_value s d ≡ number s (cast_unsigned w64 d % 256 ^ scalar_size s)
unfolding default_value
whole_default s d not_float not_double = grind arith

-- and its lowest bytes fit it
pub low_fits : (s : Scalar) (n low : ℕ) → low ≡ n % 256 ^ scalar_size s → low < 256 ^ scalar_size s
low_fits s n low e = grind arith
