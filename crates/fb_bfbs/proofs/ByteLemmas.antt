-- Fields of bytes, and their marks.
use Rattle.std.proofs.Common.{◌≡◌, ℕ, ◌+◌, ◌<◌, ◌≤◌, true, false, Bool, List, [], ◌∷◌, ◌++◌, length, map, take, get_or, slice_get, Option, Some, None, option_map, refl, sym, ◌∙◌, ap, subst, arith, inl, inr, is_ok, Result, Ok, Err, Ordering, Less, Equal, Greater}
use Rattle.std.specs.Prelude.{◌==◌, ◌&&◌, ◌||◌, not, IfNone, IfSome, IsSorted, IsPermutation}
use Rattle.std.proofs.lemmas.{Cmp.nat_cmp_total, Cmp.on_total, Cmp.then_total, Cmp.tied_itself, List.length-map, List.map-append, Grind.take_at_read, Option.get_or_from_slice_get}
use Rattle.std.proofs.lemmas.{Option.slice_get-map, Option.slice_get_within, Bool.Decides.Decides-eqb, List.Folds.list_any-append, List.Folds.list_any_at, List.Folds.list_any_none}
use Rattle.std.proofs.{lemmas.List.Sorted.list_any-IsPermutation, Math.Seq.take-length}
use Rattle.std.specs.{Cmp.IsTotalOrder, List.list_any, List.Sorted.IsSortedBy, List.Sorted.IsNonDecreasingBy, List.Sorted.IsPartitionPoint, List.Sorted.IsBinarySearchResult}
use Rattle.std.specs.{List.Sorted.IsSearchInRange, Ordering.nat_cmp, Ordering.is_lt, Ordering.ordering_index, Ordering.ordering_then}
use Rattle.fb_schema.specs.{declared.views.FieldView.FieldView, Live.Live, Live.live_fields, Live.live_in, Live.live_of_view, Rows.Object, Rows.Rows, Rows.is_some_table}
use Rattle.fb_schema.specs.{Rows.is_table, Served.IsServed}
use Rattle.fb_schema.proofs.{Numbers.lt_or_eq, Numbers.neither_below, Numbers.slice_get_some, Search.nat_tied, Search.not_true, Search.search_missed}
use Rattle.fb_bfbs.specs.{Marks.Marked, Marks.marked, declared.byte_fields.ByteField.ByteField, declared.marks.Builtins.Builtins, declared.marks.Mark.Mark, ByteFields.HasUnmarked}
use Rattle.fb_bfbs.specs.ByteFields.{IsField, IsUnmarked, are_written, has_mark, is_at, is_bytes, is_unmarked}
use Rattle.fb_bfbs.specs.MarkedSlots.{AreSlots, has_slot, is_slotless, slot_cmp}

-- Two tests.

pub both_hold : (x y : Bool) → x ≡ true → y ≡ true → (x && y) ≡ true
both_hold x y h i = rw (h, i) refl

pub both_held : (x y : Bool) → (x && y) ≡ true → (x ≡ true) × (y ≡ true)
both_held true y h = (refl, h)
both_held false y h = absurd (cc)

-- A test of fields.

-- an object that is no table has no live fields
no_live_in : (o : Option Object) (rows : Rows) → is_some_table o ≡ false → live_in rows o ≡ []
no_live_in None rows h = refl
no_live_in (Some o) rows h = grind arith

no_live : (rows : Rows) (k : ℕ) → is_table rows k ≡ false → live_fields rows k ≡ []
unfolding live_fields
no_live rows k h = no_live_in (slice_get rows.objects k) rows h

pub no_field : (rows : Rows) (k : ℕ) (P : Live → Bool) → is_table rows k ≡ false → (f : Live) → IsField rows k P f → ⊥
no_field rows k P h f is = nowhere is.place (subst (λ (l : List Live). slice_get l is.place ≡ Some f) (no_live rows k h) is.at) where
  nowhere : (i : ℕ) → slice_get [] i ≡ Some f → ⊥
  nowhere i at = let past = slice_get_within [] i f at in omega (arith, past)

-- a live field is one of an object
pub field_within : (rows : Rows) (k : ℕ) (P : Live → Bool) (f : Live) → IsField rows k P f → k < length rows.objects
field_within rows k P f is = go (slice_get rows.objects k) refl where
  go : (o : Option Object) → slice_get rows.objects k ≡ o → k < length rows.objects
  go None none = absurd (no_field rows k P (ap is_some_table none) f is)
  go (Some o) some = slice_get_within rows.objects k o some

-- the fields of an object before a place fail
abbrev pub NoneSo : Rows → ℕ → (Live → Bool) → ℕ → Type 0
NoneSo rows k P n = (i : ℕ) (f : Live) → i < n → slice_get (live_fields rows k) i ≡ Some f → P f ≡ false

pub none_more : (rows : Rows) (k : ℕ) (P : Live → Bool) (n : ℕ) (v : Live) → slice_get (live_fields rows k) n ≡ Some v → P v ≡ false → NoneSo rows k P n → NoneSo rows k P (n + 1)
none_more rows k P n v at fails before i f low is = elim (lt_or_eq i n (omega (arith, low))) [
  | inl less ↦ before i f less is
  | inr same ↦
      let here : slice_get (live_fields rows k) i ≡ Some v = subst (λ j. slice_get (live_fields rows k) j ≡ Some v) (sym same) at in
      let one : v ≡ f = cc in
      ap P (sym one) ∙ fails
]

pub none_so : (rows : Rows) (k : ℕ) (P : Live → Bool) (n : ℕ) → length (live_fields rows k) ≤ n → NoneSo rows k P n → (f : Live) → IsField rows k P f → ⊥
none_so rows k P n all none f is =
    let inside = slice_get_within (live_fields rows k) is.place f is.at in
    let fails = none is.place f (omega (arith, inside, all)) is.at in
    let w : true ≡ false = sym is.is ∙ fails in
    cc

-- the fields of the objects before a number fail
abbrev pub NoneBefore : Rows → (ℕ → Live → Bool) → ℕ → Type 0
NoneBefore rows P n = (k : ℕ) → k < n → (f : Live) → IsField rows k (P k) f → ⊥

pub no_more_objects : (rows : Rows) (P : ℕ → Live → Bool) (n : ℕ) → ((f : Live) → IsField rows n (P n) f → ⊥) → NoneBefore rows P n → NoneBefore rows P (n + 1)
no_more_objects rows P n none before k low f is = elim (lt_or_eq k n (omega (arith, low))) [
  | inl less ↦ before k less f is
  | inr same ↦ none f (subst (λ j. IsField rows j (P j) f) same is)
]

pub no_object : (rows : Rows) (P : ℕ → Live → Bool) (n : ℕ) → length rows.objects ≤ n → NoneBefore rows P n → (k : ℕ) (f : Live) → IsField rows k (P k) f → ⊥
no_object rows P n all none k f is = let within = field_within rows k (P k) f is in none k (omega (arith, within, all)) f is

-- The field of bytes in a slot.

-- among views of the fields of a table
module _ (rows : Rows) (served : IsServed rows) (k : ℕ) (fields : List FieldView) (is : map live_of_view fields ≡ live_fields rows k) where
  viewed : (i : ℕ) → slice_get (live_fields rows k) i ≡ option_map live_of_view (slice_get fields i)
  viewed i = subst (λ (l : List Live). slice_get l i ≡ option_map live_of_view (slice_get fields i)) is (slice_get-map live_of_view fields i)

  stands : (i : ℕ) (d : FieldView) → i < length fields → slice_get (live_fields rows k) i ≡ Some (live_of_view (get_or fields i d))
  stands i d lt =
      let x = slice_get_some fields i lt in
      viewed i ∙ ap (option_map live_of_view) x.1 ∙ ap (λ v. Some (live_of_view v)) (sym (get_or_from_slice_get fields i x.0 d x.1))

  within : (i : ℕ) (f : Live) → slice_get (live_fields rows k) i ≡ Some f → i < length fields
  within i f at = subst (λ n. i < n) (length-map fields live_of_view) (subst (λ (l : List Live). i < length l) (sym is) (slice_get_within (live_fields rows k) i f at))

  rises : (i : ℕ) (d : FieldView) → i + 1 < length fields → (get_or fields i d).slot < (get_or fields (i + 1) d).slot
  rises i d lt = served.rising k i (i + 1) _ _ (stands i d (omega (arith, lt))) (stands (i + 1) d lt) (omega arith)

  rising_order : IsSortedBy (λ (a b : FieldView). is_lt (nat_cmp a.slot b.slot)) fields
  rising_order i d _ lt = not_true _ (λ e. below_itself (get_or fields (i + 1) d).slot (get_or fields i d).slot e (rises i d lt)) where
    below_itself : (x y : ℕ) → is_lt (nat_cmp x y) ≡ true → y < x → ⊥
    below_itself x y e lt = grind (arith, e)

  -- where a search finds it
  pub found_slot : (place slot : ℕ) (v : FieldView) → place < length fields → ((d : FieldView) → nat_cmp (get_or fields place d).slot slot ≡ Equal)
      → slice_get (live_fields rows k) place ≡ Some (live_of_view v) → v.slot ≡ slot
  found_slot place slot v lt tied at =
      let here = stands place v lt in
      let same : live_of_view v ≡ live_of_view (get_or fields place v) = cc in
      ap (λ (f : Live). f.slot) same ∙ nat_tied _ _ (tied v)

  -- where it finds none
  pub missed_slot : (place slot : ℕ) → (IsNonDecreasingBy (λ (y : FieldView). ordering_index (nat_cmp y.slot slot)) fields → IsPartitionPoint (λ (y : FieldView). nat_cmp y.slot slot ≡ Less) (λ (y : FieldView). nat_cmp y.slot slot ≡ Greater) fields place)
      → (f : Live) → IsField rows k (is_at slot) f → ⊥
  missed_slot place slot split f found =
      let lt = within found.place f found.at in
      let x = slice_get_some fields found.place lt in
      let here = stands found.place x.0 lt in
      let at = found.at in
      let same : live_of_view (get_or fields found.place x.0) ≡ f = cc in
      let its : f.slot ≡ slot = (Decides-eqb f.slot slot).0 (both_held (f.slot == slot) (is_bytes f.kind) found.is).0 in
      let there : (get_or fields found.place x.0).slot ≡ slot = ap (λ (l : Live). l.slot) same ∙ its in
      search_missed nat_cmp nat_cmp_total (λ (y : FieldView). y.slot) fields slot place rising_order split found.place x.0 lt (ap (λ n. nat_cmp n slot) there ∙ tied_itself nat_cmp_total slot)

-- a field with this slot that is of bytes
pub stands_at : (rows : Rows) (k place slot : ℕ) (v : Live) → slice_get (live_fields rows k) place ≡ Some v → v.slot ≡ slot → is_bytes v.kind ≡ true → IsField rows k (is_at slot) v
stands_at rows k place slot v at its bytes = record { place = place; at = at; is = both_hold (v.slot == slot) (is_bytes v.kind) ((Decides-eqb v.slot slot).1 its) bytes }

-- the one field in a slot isn't of bytes
pub other_slot : (rows : Rows) → IsServed rows → (k place slot : ℕ) (v : Live) → slice_get (live_fields rows k) place ≡ Some v → v.slot ≡ slot → is_bytes v.kind ≡ false
    → (f : Live) → IsField rows k (is_at slot) f → ⊥
other_slot rows served k place slot v at v_slot other f h =
    let both = both_held (f.slot == slot) (is_bytes f.kind) h.is in
    let f_slot : f.slot ≡ slot = (Decides-eqb f.slot slot).0 both.0 in
    let one = neither_below h.place place
    (λ lt. let w = served.rising k h.place place f v h.at at lt in omega (arith, w, v_slot, f_slot))
    (λ lt. let w = served.rising k place h.place v f at h.at lt in omega (arith, w, v_slot, f_slot)) in
    let here : slice_get (live_fields rows k) place ≡ Some f = subst (λ i. slice_get (live_fields rows k) i ≡ Some f) one h.at in
    let same : v ≡ f = cc in
    let bytes : is_bytes v.kind ≡ true = rw same both.1 in
    let w : true ≡ false = sym bytes ∙ other in
    cc

-- Slots of marks.

slots_total : IsTotalOrder slot_cmp
slots_total = then_total (on_total (λ (s : ℕ × ℕ). s.0) nat_cmp_total) (on_total (λ (s : ℕ × ℕ). s.1) nat_cmp_total)

then_tied : (p q : Ordering) → ordering_then p q ≡ Equal → (p ≡ Equal) × (q ≡ Equal)
then_tied Equal q h = (refl, h)
then_tied Less q h = absurd (cc)
then_tied Greater q h = absurd (cc)

module _ (object slot : ℕ) where
  -- a slot of an object
  abbrev is_this : ℕ × ℕ → Bool
  is_this s = (s.0 == object) && (s.1 == slot)

  tied_is : (s : ℕ × ℕ) → slot_cmp s (object, slot) ≡ Equal → is_this s ≡ true
  tied_is s tied =
      let both = then_tied (nat_cmp s.0 object) (nat_cmp s.1 slot) tied in
      both_hold (s.0 == object) (s.1 == slot) ((Decides-eqb s.0 object).1 (nat_tied s.0 object both.0)) ((Decides-eqb s.1 slot).1 (nat_tied s.1 slot both.1))

  is_tied : (s : ℕ × ℕ) → is_this s ≡ true → slot_cmp s (object, slot) ≡ Equal
  is_tied s is =
      let both = both_held (s.0 == object) (s.1 == slot) is in
      let first : nat_cmp s.0 object ≡ Equal = ap (λ n. nat_cmp n object) ((Decides-eqb s.0 object).0 both.0) ∙ tied_itself nat_cmp_total object in
      let second : nat_cmp s.1 slot ≡ Equal = ap (λ n. nat_cmp n slot) ((Decides-eqb s.1 slot).0 both.1) ∙ tied_itself nat_cmp_total slot in
      rw (first, second) refl

  -- it is found where it stands
  pub slot_found : (slots : List (ℕ × ℕ)) (r : Result ℕ ℕ) → IsSorted slot_cmp slots → IsSearchInRange r (length slots) → IsBinarySearchResult (λ (s : ℕ × ℕ). slot_cmp s (object, slot)) slots r
      → is_ok r ≡ has_slot slots object slot
  slot_found slots (Ok k) up range found = sym (list_any_at is_this slots k (0, 0) range (tied_is (get_or slots k (0, 0)) (found (0, 0))))
  slot_found slots (Err k) up range split = sym (list_any_none is_this slots (λ i d lt. not_true (is_this (get_or slots i d)) (λ is.
      search_missed slot_cmp slots_total (λ (s : ℕ × ℕ). s) slots (object, slot) k up split i d lt (is_tied (get_or slots i d) is))))

-- each mark so far gave its slot
abbrev pub AreSlotsOf : List Mark → List (ℕ × ℕ) → Type 0
AreSlotsOf marks slots = (object slot : ℕ) → has_slot slots object slot ≡ has_mark (map marked marks) object slot

pub slot_added : (marks : List Mark) (i : ℕ) (d : Mark) (slots more : List (ℕ × ℕ)) → i < length marks → AreSlotsOf (take i marks) slots
    → more ≡ slots ++ ((get_or marks i d).object, (get_or marks i d).slot) ∷ [] → AreSlotsOf (take (i + 1) marks) more
slot_added marks i d slots more lt before is object slot =
    let mark = get_or marks i d in
    let test = λ (m : Marked). (m.object == object) && (m.slot == slot) in
    ap (λ l. has_slot l object slot) is ∙ list_any-append (is_this object slot) slots ((mark.object, mark.slot) ∷ []) ∙ ap (λ b. b || list_any test (marked mark ∷ [])) (before object slot)
    ∙ sym (ap (λ l. has_mark (map marked l) object slot) (take_at_read marks i d lt).1 ∙ ap (list_any test) (map-append marked (take i marks) (mark ∷ [])) ∙ list_any-append test (map marked (take i marks)) (marked mark ∷ []))

pub slots_sorted : (marks : List Mark) (n : ℕ) (slots sorted : List (ℕ × ℕ)) → length marks ≤ n → AreSlotsOf (take n marks) slots → IsPermutation slots sorted → IsSorted slot_cmp sorted
    → n ≤ length marks → AreSlots (map marked marks) sorted
slots_sorted marks n slots sorted past are moved up low =
    let whole : n ≡ length marks = omega (arith, past, low) in
    let all : take n marks ≡ marks = ap (λ j. take j marks) whole ∙ take-length marks in
    record {
      rises = up;
      same = λ object slot. sym (list_any-IsPermutation (is_this object slot) slots sorted moved) ∙ are object slot ∙ ap (λ l. has_mark (map marked l) object slot) all;
    }

-- Fields without a mark.

module _ (rows : Rows) (marks : List Marked) (slots : List (ℕ × ℕ)) (are : AreSlots marks slots) where
  same_test : (object : ℕ) (f : Live) → is_slotless slots object f ≡ is_unmarked marks object f
  same_test object f = ap (λ b. is_bytes f.kind && not b) (are.same object f.slot)

  -- what was found by their slots is told by marks
  pub unmarked_found : (builtins : Builtins) (found : Option ByteField) → are_written builtins ≡ false → IfSome found (λ b. IsField rows b.table (is_slotless slots b.table) (live_of_view b.field))
      → IfNone found ((object : ℕ) (f : Live) → IsField rows object (is_slotless slots object) f → ⊥) → IsUnmarked rows marks builtins found
  unmarked_found builtins (Some b) untold is none = record {
    field = record { place = is.place; at = is.at; is = sym (same_test b.table (live_of_view b.field)) ∙ is.is };
    untold = untold;
  }
  unmarked_found builtins None untold some none = λ h.
      let field = h.2.field in
      none h.0 h.1 (record { place = field.place; at = field.at; is = same_test h.0 h.1 ∙ field.is })

-- where each would be there, none is lacking
pub none_if_written : (rows : Rows) (marks : List Marked) (builtins : Builtins) → are_written builtins ≡ true → HasUnmarked rows marks builtins → ⊥
none_if_written rows marks builtins written h = let w : true ≡ false = sym written ∙ h.2.untold in cc
