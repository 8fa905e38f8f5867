-- Wherever steps lead in a buffer that unfolds, what is there lies in the buffer.
use Rattle.std.proofs.Common.{◌≡◌, ℕ, ◌+◌, ◌*◌, ◌<◌, ◌≤◌, ◌==◌, nat_lt, if◌then◌else◌, Bool, true, List, [], ◌∷◌, length, refl, subst, arith, Option, Some, None}
use Rattle.std.proofs.lemmas.{Bool.Decides.nat_tests}
use Rattle.std.specs.Prelude.{IfSome, option_map}
use Rattle.fb_bytes.specs.Word.{word}
use Rattle.fb_schema.specs.declared.{kinds.Kind.Kind, views.PartView.PartView}
use Rattle.fb_schema.specs.declared.kinds.Kind.TheVariants.{Text, Struct, Table}
use Rattle.fb_schema.specs.{Rows.Rows, Kinds.scalar_size, Kinds.struct_size, Kinds.struct_align, Live.Live, Members.member_of, Parts.PartFits, Parts.part_at, Served.MemberHolds, Served.IsServed}
use Rattle.fb_rules.specs.{Tree.Element as Found, Tree.leaf, Tree.table, Unfolds.ElementUnfolds, declared.checks.Checks.Checks}
use Rattle.fb_rules.specs.Fields.{Lead, to_table, to_struct, to_string, to_nothing, lead_of}
use Rattle.fb_access.specs.declared.{step.Step.Step, step.Step.TheVariants.Field, step.Step.TheVariants.Element, step.Step.TheVariants.Member, spot.Spot.Spot}
use Rattle.fb_access.specs.declared.spot.Spot.TheVariants.{AtTable, AtScalars, AtStructs, AtScalarArray, AtStructArray, AtTexts, AtTables, AtUnions, AtUnion, AtAbsent, AtNoElement, AtOtherMember}
use Rattle.fb_access.specs.{Fitting.numbered, Denotes.next_spot, Denotes.Reaches, Inside.OffsetLies, Inside.LiesInside, Inside.ValuesLieInside}
use Rattle.fb_access.specs.Spots.{field_spot, part_spot, spot_of_part, spot_of_field, if_element, spot_of_element, member_spot, spot_of_member}
use Rattle.fb_access.specs.Held.{IsReadable, IsTableAt, IsStructAt, IsLed, IsUnionAt, IsSpot}
use Rattle.fb_access.proofs.{FieldSpots.field_spot_holds, FieldSpots.field_readable, Leading.led_to_table, Leading.led_to_string, Leading.led_to_struct, TableFields.table_has_vtable, StepLaws.some_same, Walks.root_placed}

-- an element below the count ends within the elements
element_ends : (size j n : ℕ) → j < n → size * j + size ≤ n * size
element_ends size j n lt = grind arith

if_less : (j n : ℕ) → nat_lt j n ≡ true → j < n
if_less j n h = grind (arith, nat_tests)

module _ (b : List ℕ) (S : Rows) where
  -- of two spots the one that the test takes
  one_of : (t : Bool) (q other : Spot) → (t ≡ true → IsSpot b S q) → IsSpot b S other → IsSpot b S (if t then q else other)
  one_of t q other h o = grind arith

  -- a field of a table
  field_of : (k t n : ℕ) (f : Option Live) (q : Spot) → IsServed S → IsTableAt b S k t → numbered S k n ≡ f → option_map (field_spot b t) f ≡ Some q → IsSpot b S q
  field_of k t n None q served h e l = absurd cc
  field_of k t n (Some f) q served h e l = subst (IsSpot b S) (some_same l) (field_spot_holds b S k t n f served h e)

  -- a field of a struct
  pub part_stays : (k p : ℕ) (part : PartView) (kind : Kind) → IsStructAt b S k p → PartFits S (struct_size S k) part kind → IsSpot b S (spot_of_part (p + part.place) part.count kind)
  unfolding IsSpot spot_of_part
  part_stays k p part kind h f = grind arith

  pub part_begins : (bytes : ℕ) (part : PartView) (kind : Kind) → PartFits S bytes part kind → part.place ≤ bytes
  part_begins bytes part kind f = grind arith

  part_of_struct : (k p n : ℕ) (o : Option PartView) (q : Spot) → IsServed S → IsStructAt b S k p → part_at S k n ≡ o → option_map (part_spot p) o ≡ Some q → IsSpot b S q
  part_of_struct k p n o q served h e l = grind (arith, part_stays)

  from_field : (p : Spot) (n : ℕ) (q : Spot) → IsServed S → IsSpot b S p → spot_of_field b S p n ≡ Some q → IsSpot b S q
  unfolding IsSpot
  from_field p n q served h l = grind (arith, field_of, part_of_struct)

  -- an element, or nothing past the last
  if_below : (n j : ℕ) (p q : Spot) → (j < n → IsSpot b S p) → Some (if_element n j p) ≡ Some q → IsSpot b S q
  unfolding IsSpot
  if_below n j p q h l = grind (arith, one_of, if_less)

  -- an element that stands in place
  in_place : (n p size j : ℕ) → p + n * size ≤ length b → j < n → p + size * j + size ≤ length b
  in_place n p size j h lt = let e = element_ends size j n lt in omega (arith, h, e)

  from_element : (p : Spot) (j : ℕ) (q : Spot) → IsSpot b S p → spot_of_element b S p j ≡ Some q → IsSpot b S q
  unfolding IsSpot spot_of_element
  from_element (AtScalars s c) j q h l = if_below (word b c 4) j _ q (λ lt. in_place (word b c 4) (c + 4) (scalar_size s) j h.within lt) l
  from_element (AtStructs k c) j q h l = if_below (word b c 4) j _ q (λ lt. record { object = h.object; within = in_place (word b c 4) (c + 4) (struct_size S k) j h.counted.within lt }) l
  from_element (AtScalarArray s n p) j q h l = if_below n j _ q (λ lt. in_place n p (scalar_size s) j h lt) l
  from_element (AtStructArray k n p) j q h l = if_below n j _ q (λ lt. record { object = h.object; within = in_place n p (struct_size S k) j h.within lt }) l
  from_element (AtTexts c) j q h l = if_below (word b c 4) j _ q (λ lt. (led_to_string b S (c + 4 + 4 * j) (h.led.at j lt)).1) l
  from_element (AtTables k c) j q h l = if_below (word b c 4) j _ q (λ lt. (led_to_table b S (c + 4 + 4 * j) k h.object (h.led.at j lt)).1) l
  from_element (AtUnions e y c) j q h l = if_below (word b c 4) j _ q (λ lt. record { union = h.union; led = h.led.at j lt }) l
  from_element p j q h l = absurd cc

  -- what a union's uoffset leads to
  member_lies : (p : ℕ) (kind : Kind) → MemberHolds S (Some kind) → IsLed b S p (lead_of S (Some kind)) → IsSpot b S (member_spot b p kind)
  unfolding IsSpot member_spot
  member_lies p (Table k) m l = (led_to_table b S p k m l).1
  member_lies p (Struct k) m l = record { object = m.0; within = (led_to_struct b S p (struct_size S k) (struct_align S k) l).1 }
  member_lies p Text m l = (led_to_string b S p l).1
  member_lies p kind m l = tt

  member_of_union : (e y p m : ℕ) (member : Option Kind) (q : Spot) → MemberHolds S member → IsUnionAt b S e y p → member_of S e m ≡ member → option_map (λ kind. if y == m then member_spot b p kind else AtOtherMember) member ≡ Some q → IsSpot b S q
  unfolding IsSpot
  member_of_union e y p m member q holds h i l = grind (arith, nat_tests, member_lies)

  from_union : (p : Spot) (m : ℕ) (q : Spot) → IsServed S → IsSpot b S p → spot_of_member b S p m ≡ Some q → IsSpot b S q
  unfolding IsSpot
  from_union (AtUnion e y p) m q served h l = member_of_union e y p m (member_of S e m) q (served.members e m) h refl l
  from_union p m q served h l = absurd cc

  -- one step, and all of them
  pub step_stays : (p : Spot) (s : Step) (q : Spot) → IsServed S → IsSpot b S p → next_spot b S p s ≡ Some q → IsSpot b S q
  unfolding next_spot
  step_stays AtAbsent s q served h l = subst (IsSpot b S) (some_same l) h
  step_stays AtNoElement s q served h l = subst (IsSpot b S) (some_same l) h
  step_stays AtOtherMember s q served h l = subst (IsSpot b S) (some_same l) h
  step_stays p (Field n) q served h l = from_field p n q served h l
  step_stays p (Element j) q served h l = from_element p j q h l
  step_stays p (Member m) q served h l = from_union p m q served h l

  steps_stay : (p : Spot) (steps : List Step) (q : Spot) → IsServed S → IsSpot b S p → Reaches b S p steps q → IsSpot b S q
  steps_stay p [] q served h r = subst (IsSpot b S) r h
  steps_stay p (s ∷ steps) q served h r = steps_stay r.0 steps q served (step_stays p s r.0 served h r.1) r.2

  -- a uoffset that leads to something
  offset_lies : (c : Checks) (y : Found) (p : ℕ) (lead : Lead) → ElementUnfolds y c b S p lead → OffsetLies b p lead
  unfolding ElementUnfolds
  offset_lies c y p to_nothing u = tt
  offset_lies c leaf p (to_table k) u = absurd u
  offset_lies c (table y) p (to_struct size align) u = absurd u
  offset_lies c (table y) p to_string u = absurd u
  offset_lies c y p lead u = u.0.within

  lies : (q : Spot) → IsServed S → IsSpot b S q → LiesInside b S q
  unfolding IsSpot
  lies (AtTable k t) served h = record {
    vtable = table_has_vtable b S k t h;
    fields = λ n p f e is. subst (λ place. IfSome place (λ p. IsReadable b t f.slot p f.kind)) is (field_readable b S k t n f served h e);
  }
  lies q served h = grind (arith, offset_lies)

pub values_lie_inside : ValuesLieInside
values_lie_inside v served h = grind (arith, lies, root_placed, steps_stay)
