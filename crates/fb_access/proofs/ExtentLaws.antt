-- The extent of a vector or array is that of its elements.
use Rattle.std.proofs.Common.{◌≡◌, ℕ, ◌<◌, ℤ, List, arith, Some}
use Rattle.fb_schema.specs.declared.kinds.Scalar.{Scalar}
use Rattle.fb_access.specs.{declared.spot.Spot.Spot, Denotes.next_spot, Denotes.number, Denotes.inline_value, Denotes.default_value, Denotes.value, Denotes.vector, Extents.extent}
use Rattle.fb_access.specs.{Spots.if_element, Spots.spot_of_element, StepLaws.position_of, StepLaws.ElementsFillExtents}
use Rattle.fb_access.proofs.StepLaws.{element_there}

same_count : {m n : ℕ} → vector m ≡ vector n → m ≡ n
same_count h = cc

-- an element below the count is there
there : (m n j : ℕ) (x r : Spot) → vector m ≡ vector n → j < n → Some (if_element m j x) ≡ Some r → position_of r ≡ position_of x
there m n j x r h lt l = grind (arith, element_there)

-- a number is no vector
number_counts_none : (s : Scalar) (m n : ℕ) → number s m ≡ vector n → ⊥
unfolding number
number_counts_none s m n h = grind arith

inline_counts_none : (b : List ℕ) (s : Scalar) (p n : ℕ) → inline_value b p s ≡ vector n → ⊥
unfolding inline_value
inline_counts_none b s p n h = grind (arith, number_counts_none)

default_counts_none : (s : Scalar) (d : ℤ) (n : ℕ) → default_value s d ≡ vector n → ⊥
unfolding default_value
default_counts_none s d n h = grind (arith, number_counts_none)

pub elements_fill_extents : ElementsFillExtents
unfolding value extent next_spot spot_of_element
elements_fill_extents b S q n v = grind (arith, default_counts_none, inline_counts_none, same_count, there)
