-- The bytes of a value stand where its extent says.
use Rattle.std.proofs.Common.{◌≡◌, ℕ, ◌+◌, ◌*◌, List, None, refl, ap, arith}
use Rattle.fb_bytes.specs.Word.{word}
use Rattle.fb_schema.specs.{Rows.Rows, declared.kinds.Scalar.Scalar}
use Rattle.fb_schema.specs.declared.kinds.Scalar.TheVariants.{UType, Float as AsFloat, Double}
use Rattle.fb_access.specs.{Denotes.bytes_at, Denotes.default_value, Denotes.inline_value, Denotes.number, Denotes.value, Extents.extent, Extents.scalar_extent, declared.spot.Spot.Spot}
use Rattle.fb_access.specs.declared.spot.Spot.TheVariants.{AtInline, AtStruct, AtText, AtScalars, AtStructs, AtScalarArray, AtStructArray, AtDefault}
use Rattle.fb_access.proofs.ExtentLaws.{elements_fill_extents}
use Rattle.fbcheck_calls.specs.AnswerLaws.{Stands}

once : (n : ℕ) → n ≡ n * 1
once n = omega arith

module _ (b : List ℕ) (S : Rows) where
  number_stands : (q : Spot) (s : Scalar) (n : ℕ) → Stands b S q (number s n) None
  unfolding number
  number_stands q UType n = tt
  number_stands q _ n = tt

  inline_stands : (q : Spot) (s : Scalar) (p : ℕ) → Stands b S q (inline_value b p s) (scalar_extent s p)
  unfolding inline_value number
  inline_stands q AsFloat p = refl
  inline_stands q Double p = refl
  inline_stands q _ p = tt

  default_stands : (q : Spot) (s : Scalar) (n : _) → Stands b S q (default_value s n) None
  unfolding default_value
  default_stands q AsFloat n = tt
  default_stands q Double n = tt
  default_stands q s n = number_stands q s _

  pub stands : (q : Spot) → Stands b S q (value b S q) (extent b S q)
  unfolding value extent
  stands (AtInline s p) = inline_stands (AtInline s p) s p
  stands (AtStruct k p) = refl
  stands (AtText c) = ap (bytes_at b (c + 4)) (once (word b c 4))
  stands (AtScalars s c) = elements_fill_extents b S (AtScalars s c) (word b c 4) refl
  stands (AtStructs k c) = elements_fill_extents b S (AtStructs k c) (word b c 4) refl
  stands (AtScalarArray s n p) = elements_fill_extents b S (AtScalarArray s n p) n refl
  stands (AtStructArray k n p) = elements_fill_extents b S (AtStructArray k n p) n refl
  stands (AtDefault s d) = default_stands (AtDefault s d) s d
  stands _ = tt
