-- Numbers that fit a narrower scalar are themselves in its bits.
use Rattle.std.proofs.Common.{ℤ, sym, subst, arith, to_z, of_z, w8, w16, w32, w64}
use Rattle.std.specs.{Int.Width, Int.RustNames.FitsSigned}
use Rattle.std.proofs.lemmas.Int.{ints, to_z-of_z}
use Rattle.fb_schema.specs.declared.kinds.Scalar.{Scalar, TheVariants.Byte, TheVariants.Short, TheVariants.Int as AsInt}
use Rattle.fb_access.specs.Here.{width_of}

-- a number that fits a scalar fits 64 bits
pub fits_long : (s : Scalar) (z : ℤ) → FitsSigned (width_of s) z → FitsSigned w64 z
fits_long Byte z h = let fits : FitsSigned w8 z = h in omega (arith, ints)
fits_long Short z h = let fits : FitsSigned w16 z = h in omega (arith, ints)
fits_long AsInt z h = let fits : FitsSigned w32 z = h in omega (arith, ints)
fits_long s z h = h

-- a number that fits so many bits is what these bits are
pub kept : (w : Width) (P : ℤ → Type 0) (z : ℤ) → FitsSigned w z → P z → P (to_z w (of_z w z))
kept w P z h x = subst P (sym (to_z-of_z w z h)) x

-- and so it is in as many bits of 64
pub narrowed : (w : Width) (P : ℤ → Type 0) (z : ℤ) → FitsSigned w z → FitsSigned w64 z → P z → P (to_z w (of_z w (to_z w64 (of_z w64 z))))
narrowed w P z h wide x = kept w64 (λ y. P (to_z w (of_z w y))) z wide (kept w P z h x)
