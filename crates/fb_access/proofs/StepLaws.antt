-- Where steps lead, by the verifier's words.
use Rattle.std.proofs.Common.{◌≡◌, ◌≢◌, ℕ, ◌+◌, ◌*◌, ◌<◌, ◌≤◌, ◌⊎◌, ◌==◌, if◌then◌else◌, ℤ, Bool, List, [], ◌∷◌, refl, sym, ◌∙◌, ap, subst, arith, Option, Some, None}
use Rattle.std.specs.{Prelude.slice_get, Prelude.option_map, List.position_or_len}
use Rattle.std.proofs.lemmas.{Bool.Decides.nat_tests, List.Folds.find_at}
use Rattle.fb_bytes.specs.Word.{word}
use Rattle.fb_schema.specs.declared.kinds.Kind.TheVariants.{Text, Table, Union, Texts, Tables, Unions}
use Rattle.fb_schema.specs.{Rows.Rows, Kinds.kind_size, Live.Live, Live.live_fields, Members.member_of, declared.kinds.Kind.Kind}
use Rattle.fb_schema.proofs.Kinded.{field_sized}
use Rattle.fb_rules.specs.Places.{target}
use Rattle.fb_rules.specs.Fields.{type_place, union_type, types_begin, to_table, to_string, lead_of, Entry, entry, union_entry, entries_of, entries_at, entries}
use Rattle.fb_access.specs.declared.spot.Spot.TheVariants.{AtTable, AtText, AtTexts, AtTables, AtUnions, AtUnion, AtNoElement, AtOtherMember}
use Rattle.fb_access.proofs.Leading.{row_at, union_row_at, row_get, row_end}
use Rattle.fb_access.specs.{Fitting.numbered, Denotes.next_spot, Denotes.Leads, Denotes.Reaches, declared.step.Step.TheVariants.Field, declared.step.Step.TheVariants.Element, declared.spot.Spot.Spot}
use Rattle.fb_access.specs.Spots.{kind_at, present_spot, absent_spot, spot_at, field_spot, if_element, spot_of_element, member_spot}
use Rattle.fb_access.specs.StepLaws.{position_of, value_place, IsFieldOf, FieldsStandInPlace, IsLedTo, IsOfEntry, steps_on, StepsFollowEntries, AreOffsets, NoOtherElements, MembersFollowLeads, AreInline, ElementsStandInRow}

pub some_same : {A : Type 0} {x y : A} → Some x ≡ Some y → x ≡ y
some_same h = cc

-- Fields.

module _ (b : List ℕ) (S : Rows) (k t n : ℕ) (f : Live) (e : numbered S k n ≡ Some f) where
  -- the field step
  pub field_step : Leads b S (AtTable k t) (Field n) (field_spot b t f)
  unfolding next_spot
  field_step = grind arith

  one_step : (q : Spot) → Leads b S (AtTable k t) (Field n) q → field_spot b t f ≡ q
  one_step q l = some_same (sym field_step ∙ l)

present_in_place : (b : List ℕ) (t o p : ℕ) (kind : Kind) → (kind_at (present_spot b t o p kind) ≡ Some kind) × (position_of (present_spot b t o p kind) ≡ Some (value_place b p kind))
unfolding present_spot
present_in_place b t o p kind = grind arith

absent_nowhere : (optional : Bool) (d : ℤ) (kind : Kind) → position_of (absent_spot optional d kind) ≡ None
unfolding absent_spot
absent_nowhere optional d kind = grind arith

field_in_place : (b : List ℕ) (t : ℕ) (f : Live) → IsFieldOf b t f (field_spot b t f)
field_in_place b t f = record {
  kind = λ p e. subst (λ place. kind_at (spot_at b t f place) ≡ Some f.kind) (sym e) (present_in_place b t f.slot p f.kind).0;
  present = λ p e. subst (λ place. position_of (spot_at b t f place) ≡ Some (value_place b p f.kind)) (sym e) (present_in_place b t f.slot p f.kind).1;
  absent = λ e. subst (λ place. position_of (spot_at b t f place) ≡ None) (sym e) (absent_nowhere f.optional f.default f.kind);
}

pub fields_stand_in_place : FieldsStandInPlace
fields_stand_in_place b S k t n f q e l = rw (← (one_step b S k t n f e q l)) (field_in_place b t f)

-- Offset words.

pub one_entry : (y x : Entry) (j : ℕ) → slice_get (y ∷ []) j ≡ Some x → y ≡ x
one_entry y x j h = grind arith

pub one_union : (S : Rows) (p j : ℕ) (member : Option Kind) (x : Entry) → slice_get (union_entry S p member) j ≡ Some x → (p ≡ x.place) × (lead_of S member ≡ x.lead)
one_union S p j member x h = grind (arith, one_entry)

-- an element below the count, and one past it
pub element_there : (n j : ℕ) (spot : Spot) → j < n → if_element n j spot ≡ spot
element_there n j spot lt = grind (arith, nat_tests)

element_past : (n j : ℕ) (spot : Spot) → n ≤ j → if_element n j spot ≡ AtNoElement
element_past n j spot le = grind (arith, nat_tests)

module _ (b : List ℕ) (S : Rows) (t o p j : ℕ) where
  -- past a present field of this kind the steps lead to the j-th uoffset
  abbrev Follows : Kind → Entry → Type 0
  Follows kind x = (q : Spot) × Reaches b S (present_spot b t o p kind) (steps_on j kind) q × IsOfEntry b S x q

  -- an element step from a vector to its j-th uoffset
  by_element : (from q : Spot) (n : ℕ) (x y : Entry) → next_spot b S from (Element j) ≡ Some (if_element n j q) → (j < n) × (y ≡ x) → IsOfEntry b S y q → (q : Spot) × Reaches b S from (Element j ∷ []) q × IsOfEntry b S x q
  by_element from q n x y next h is = (q, (q, next ∙ ap Some (element_there n j q h.0), refl), subst (λ z. IsOfEntry b S z q) h.1 is)

  follows : (f : Live) (kind : Kind) (x : Entry) → f.slot ≡ o → slice_get (entries_of b S t f p kind) j ≡ Some x → Follows kind x
  unfolding present_spot next_spot spot_of_element
  follows f Text x s_is h = subst (Follows Text) (one_entry (entry to_string p 0) x j h) (AtText (target b p), refl, refl)
  follows f (Table k) x s_is h = subst (Follows (Table k)) (one_entry (entry (to_table k) p 0) x j h) (AtTable k (target b p), refl, refl)
  follows f (Union e) x s_is h =
      let y = union_type b (type_place b t o) in
      (AtUnion e y p, refl, one_union S p j (member_of S e y) x (rw s_is at h))
  follows f Texts x s_is h = by_element (AtTexts (target b p)) _ _ x _ refl (row_get (row_at to_string (target b p + 4) (word b (target b p) 4) j) x h) refl
  follows f (Tables k) x s_is h = by_element (AtTables k (target b p)) _ _ x _ refl (row_get (row_at (to_table k) (target b p + 4) (word b (target b p) 4) j) x h) refl
  follows f (Unions e) x s_is h =
      let y = types_begin b (type_place b t o) in
      by_element (AtUnions e y (target b p)) _ _ x _ refl (row_get (union_row_at b S e y (target b p + 4) (word b (target b p) 4) j) x (rw s_is at h)) (refl, refl)
  follows f kind x s_is h = absurd cc

  -- an element step from a vector of uoffsets that has no such word
  past_end : (n : ℕ) (x q : Spot) → n ≤ j → (m : Spot) × (Some (if_element n j x) ≡ Some m) × (m ≡ q) → position_of q ≡ None
  past_end n x q past r = grind (arith, element_past)

  no_element : (f : Live) (kind : Kind) (q : Spot) → AreOffsets kind → slice_get (entries_of b S t f p kind) j ≡ None → Reaches b S (present_spot b t o p kind) (Element j ∷ []) q → position_of q ≡ None
  unfolding present_spot next_spot spot_of_element
  no_element f kind q v h r = grind (arith, past_end, row_at, row_end, union_row_at)

module _ (b : List ℕ) (S : Rows) (t j : ℕ) (f : Live) where
  follows_at : (place : Option ℕ) (x : Entry) → slice_get (entries_at b S t f place) j ≡ Some x → (q : Spot) × Reaches b S (spot_at b t f place) (steps_on j f.kind) q × IsOfEntry b S x q
  follows_at None x h = absurd cc
  follows_at (Some p) x h = follows b S t f.slot p j f f.kind x refl h

  -- an absent vector of uoffsets has no element
  absent_element : (optional : Bool) (d : ℤ) (kind : Kind) (q : Spot) → AreOffsets kind → Reaches b S (absent_spot optional d kind) (Element j ∷ []) q → position_of q ≡ None
  unfolding absent_spot next_spot
  absent_element optional d kind q v r = grind (arith, absent_nowhere)

  no_element_at : (place : Option ℕ) (q : Spot) → AreOffsets f.kind → slice_get (entries_at b S t f place) j ≡ None → Reaches b S (spot_at b t f place) (Element j ∷ []) q → position_of q ≡ None
  no_element_at None q v h r = absent_element f.optional f.default f.kind q v r
  no_element_at (Some p) q v h r = no_element b S t f.slot p j f f.kind q v h r

pub steps_follow_entries : StepsFollowEntries
unfolding entries
steps_follow_entries b S k t n j f x e h = grind (arith, field_step, follows_at)

pub no_other_elements : NoOtherElements
unfolding entries
no_other_elements b S k t n j f q e v h r = grind (arith, no_element_at, one_step)

-- Members.

member_led : (b : List ℕ) (S : Rows) (p : ℕ) (kind : Kind) → IsLedTo b S p (lead_of S (Some kind)) (member_spot b p kind)
unfolding member_spot
member_led b S p kind = grind arith

module _ (b : List ℕ) (S : Rows) (e y p m : ℕ) (q : Spot) where
  abbrev IsFollowed : Type 0
  IsFollowed = ((y ≡ m) × IsLedTo b S p (lead_of S (member_of S e y)) q) ⊎ ((y ≢ m) × (q ≡ AtOtherMember))

  by_type : (kind : Kind) (same : Bool) → member_of S e m ≡ Some kind → (y == m) ≡ same → (if same then member_spot b p kind else AtOtherMember) ≡ q → IsFollowed
  by_type kind same h s i = grind (arith, nat_tests, member_led)

  of_member : (member : Option Kind) → member_of S e m ≡ member → option_map (λ kind. if y == m then member_spot b p kind else AtOtherMember) member ≡ Some q → IsFollowed
  of_member member h l = grind (arith, by_type)

pub members_follow_leads : MembersFollowLeads
unfolding next_spot
members_follow_leads b S e y p m q l = of_member b S e y p m q (member_of S e m) refl l

-- Elements in place.

numbered_size : (S : Rows) (k n : ℕ) (f : Live) → numbered S k n ≡ Some f → f.size ≡ kind_size S f.kind
numbered_size S k n f e = (field_sized S k (position_or_len (λ g. g.number == n) (live_fields S k)) f (sym (find_at (λ g. g.number == n) (live_fields S k)) ∙ e)).size

module _ (b : List ℕ) (S : Rows) (t o p j : ℕ) (lt : j < word b (target b p) 4) where
  below : (x q : Spot) → (m : Spot) × (Some (if_element (word b (target b p) 4) j x) ≡ Some m) × (m ≡ q) → x ≡ q
  below x q r = grind (arith, element_there)

  in_row : (size : ℕ) (kind : Kind) (q : Spot) → size ≡ kind_size S kind → AreInline kind → Reaches b S (present_spot b t o p kind) (Element j ∷ []) q → position_of q ≡ Some (target b p + 4 + size * j)
  unfolding present_spot next_spot spot_of_element
  in_row size kind q is v r = grind (arith, below)

pub elements_stand_in_row : ElementsStandInRow
elements_stand_in_row b S k t n j p f q e v place lt r =
    let from_field : Reaches b S (field_spot b t f) (Element j ∷ []) q = subst (λ m. Reaches b S m (Element j ∷ []) q) (sym (one_step b S k t n f e r.0 r.1)) r.2 in
    let here : Reaches b S (present_spot b t f.slot p f.kind) (Element j ∷ []) q = subst (λ x. Reaches b S (spot_at b t f x) (Element j ∷ []) q) place from_field in
    in_row b S t f.slot p j lt f.size f.kind q (numbered_size S k n f e) v here
