-- The examples, by computing.
use Rattle.std.proofs.Common.{◌≡◌, ℕ, refl, rules, List, [], ◌∷◌, Option, Some, None, option_map, option_and_then}
use lib.Ieee.{of_bits, round, to_bits}
use Rattle.std.specs.Float.{round_to_format}
use Rattle.fb_rules.specs.{declared.start.Start.TheVariants.Bare, Places.has_vtable, Places.vtable, Places.field_place}
use Rattle.fb_bytes.specs.Word.{word}
use Rattle.fb_schema.specs.{Live.live_fields, Kinds.shape_of, Kinds.kind_of, Kinds.base_types, Members.member_of, Parts.part_at}
use Rattle.fb_access.specs.{Spots.present_spot, Spots.absent_spot, Spots.spot_of_part, Spots.spot_of_element, Spots.member_spot, Denotes.next_spot, Denotes.Reaches, Denotes.Shown}
use Rattle.fb_access.specs.{Denotes.root_spot, Denotes.number, Denotes.inline_value, Denotes.default_value, Denotes.value, declared.step.Step.Step, declared.spot.Spot.Spot}
use Rattle.fb_access.specs.{Samples.rows, Samples.bytes, Examples.Holds, Examples.FieldValues, Examples.ElementValues, Examples.PartValues, Examples.MemberValues}
use Rattle.fb_access.specs.Examples.{ScalarValues, DefaultValues, NearestSingles, StayingValues, LackingFields, PrefixedValues, InsideValues}

-- all that is computed
computing : ℕ
unfolding word live_fields shape_of kind_of base_types member_of part_at has_vtable vtable field_place present_spot absent_spot spot_of_part spot_of_element member_spot next_spot number inline_value default_value value to_bits of_bits round round_to_format
computing = 0

-- the spot to which steps lead
abbrev end_of : Spot → List Step → Option Spot
end_of p [] = Some p
end_of p (s ∷ steps) = option_and_then (λ q. end_of q steps) (next_spot bytes rows p s)

some_end : (p : Spot) (steps : List Step) (q : Spot) → end_of p steps ≡ Some q → Reaches bytes rows p steps q
some_end p [] q h = cc
some_end p (s ∷ steps) q h = go (next_spot bytes rows p s) refl h (λ m. some_end m steps q) where
  go : (m : Option Spot) → next_spot bytes rows p s ≡ m → option_and_then (λ m. end_of m steps) m ≡ Some q → ((m : Spot) → end_of m steps ≡ Some q → Reaches bytes rows m steps q) → Reaches bytes rows p (s ∷ steps) q
  go None e i later = absurd cc
  go (Some m) e i later = (m, e, later m i)

holds : (steps : List Step) (x : Shown) → option_map (value bytes rows) (end_of (root_spot bytes Bare 0) steps) ≡ Some x → Holds steps x
holds steps x h = go (end_of (root_spot bytes Bare 0) steps) refl h where
  go : (q : Option Spot) → end_of (root_spot bytes Bare 0) steps ≡ q → option_map (value bytes rows) q ≡ Some x → Holds steps x
  go None e i = absurd cc
  go (Some q) e i = record { denotes = (q, some_end (root_spot bytes Bare 0) steps q e, cc) }

pub field_values : FieldValues
unfolding computing
field_values = search (rules, holds)

pub element_values : ElementValues
unfolding computing
element_values = search (rules, holds)

pub part_values : PartValues
unfolding computing
part_values = search (rules, holds)

pub member_values : MemberValues
unfolding computing
member_values = search (rules, holds)

pub scalar_values : ScalarValues
unfolding computing
scalar_values = search (rules, holds)

pub default_values : DefaultValues
unfolding computing
default_values = search (rules, holds)

pub nearest_singles : NearestSingles
unfolding computing
nearest_singles = search rules

pub staying_values : StayingValues
unfolding computing
staying_values = search (rules, holds)

pub lacking_fields : LackingFields
unfolding computing
lacking_fields = search rules

pub prefixed_values : PrefixedValues
unfolding computing
prefixed_values = record {
  hit_points = (_, (_, refl, refl), refl);
  name = (_, (_, refl, refl), refl);
}

-- what lies inside
pub inside_values : InsideValues
unfolding computing
inside_values = search rules
