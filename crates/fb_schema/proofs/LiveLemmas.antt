-- Fields in rising slot are those that an insertion sort gives.
use Rattle.std.proofs.Common.{◌≡◌, ◌≢◌, ℕ, zero, suc, ◌+◌, ◌-◌, ◌<◌, ◌≤◌, ◌==◌, ◌⊎◌, inl, inr, Bool, true, false, List, [], ◌∷◌, length, get_or, map, filter, position, Some, None, refl, sym, ◌∙◌, ap, subst, arith, IsPermutation, nat_le, if◌then◌else◌, Contains, Less, Equal, Greater, ◌++◌, length-append, not}
use Rattle.std.proofs.lemmas.{Cmp.nat_cmp_total, Cmp.tied_itself, List.length-map, List.get_or-map}
use Rattle.std.proofs.lemmas.{Bool.Decides.Decides-eqb}
use Rattle.std.proofs.lemmas.List.Sorted.{IsPermutation-map, Contains-permutation, IsPermutation-sym, IsPermutation-refl, IsPermutation-trans, IsPermutation-swap, IsPermutation-cons, IsPermutation-filter_both, IsNonDecreasingBy-from_default}
use Rattle.std.proofs.lemmas.{List.Elements.All-contains, List.Elements.All-filter, List.Elements.All-contains_itself, List.get_or_append_left}
use borrow.Author.Tests.{leb-true, le-leb}
use Rattle.std.specs.{List.Sorted.IsSortedBy, List.Sorted.IsNonDecreasingBy, List.Sorted.IsPartitionPoint, Ordering.nat_cmp, Ordering.is_lt, Ordering.ordering_index}
use Rattle.fb_schema.specs.{declared.rows.FieldRow.FieldRow, Rows.Field, Rows.field_of, Live.insert_by_slot, Live.by_slot, Live.is_live, Live.AreApart, Live.AreRising}
use Rattle.fb_schema.proofs.{Numbers.slice_get_some, Numbers.neither_below, Blank.blank_field, OrderLemmas.once_permuted, PositionLemmas.found_position, PositionLemmas.no_position}
use Rattle.fb_schema.proofs.Search.{nat_tied, search_missed, not_true}

contains_cases : {X : Type 0} (y z : X) (ys : List X) → Contains (y ∷ ys) z → (y ≡ z) ⊎ Contains ys z
contains_cases y z ys (zero, lt, e) = inl e
contains_cases y z ys (suc k, lt, e) = inr (k, omega arith, e)

contains_head : {X : Type 0} (y : X) (ys : List X) → Contains (y ∷ ys) y
contains_head y ys = (0, omega arith, refl)

contains_tail : {X : Type 0} (y z : X) (ys : List X) → Contains ys z → Contains (y ∷ ys) z
contains_tail y z ys h = (suc h.0, omega (arith, h.1), h.2)

-- each slot is below those after it
abbrev pub Rises : List Field → Type 0
Rises [] = Unit {0}
Rises (f ∷ fs) = ((g : Field) → Contains fs g → f.slot < g.slot) × Rises fs

-- rising lists of the same fields are one list
same_rising : (xs ys : List Field) → Rises xs → Rises ys → ((z : Field) → Contains xs z → Contains ys z) → ((z : Field) → Contains ys z → Contains xs z) → xs ≡ ys
same_rising [] [] r s f g = refl
same_rising [] (y ∷ ys) r s f g = absurd (let w = g y (contains_head y ys) in omega (arith, w.1))
same_rising (x ∷ xs) [] r s f g = absurd (let w = f x (contains_head x xs) in omega (arith, w.1))
same_rising (x ∷ xs) (y ∷ ys) r s f g =
    let x_at = contains_cases y x ys (f x (contains_head x xs)) in
    let y_at = contains_cases x y xs (g y (contains_head y ys)) in
    let above_y = s.0 x in
    let above_x = r.0 y in
    let same : x ≡ y = grind (arith, x_at, y_at, above_x, above_y) in
    λ i. same i ∷ same_rising xs ys r.1 s.1
    (λ z h. elim (contains_cases y z ys (f z (contains_tail x z xs h))) [ inl e ↦ absurd (let a = r.0 z h in let b = ap (λ (f : Field). f.slot) (same ∙ e) in omega arith) | inr t ↦ t ])
    (λ z h. elim (contains_cases x z xs (g z (contains_tail y z ys h))) [ inl e ↦ absurd (let a = s.0 z h in let b = ap (λ (f : Field). f.slot) (sym same ∙ e) in omega arith) | inr t ↦ t ]) i

abbrev SameMembers : List Field → List Field → Field → Type 0
SameMembers xs ys z = (Contains xs z → Contains ys z) × (Contains ys z → Contains xs z)

-- a field put in its place, and all in their order, are the same fields
inserted : (f : Field) (gs : List Field) → IsPermutation (f ∷ gs) (insert_by_slot f gs)
inserted f [] = IsPermutation-refl (f ∷ [])
inserted f (g ∷ gs) = go (inserted f gs) (nat_le f.slot g.slot) where
  go : IsPermutation (f ∷ gs) (insert_by_slot f gs) → (b : Bool) → IsPermutation (f ∷ g ∷ gs) (if b then f ∷ g ∷ gs else g ∷ insert_by_slot f gs)
  go later true = IsPermutation-refl (f ∷ g ∷ gs)
  go later false = IsPermutation-trans (f ∷ g ∷ gs) (g ∷ f ∷ gs) (g ∷ insert_by_slot f gs) (IsPermutation-swap (f ∷ g ∷ gs) (g ∷ f ∷ gs) 0 1 (omega arith) (omega arith) refl)
      (IsPermutation-cons g (f ∷ gs) (insert_by_slot f gs) later)

sorted : (fs : List Field) → IsPermutation fs (by_slot fs)
sorted [] = IsPermutation-refl []
sorted (f ∷ fs) = IsPermutation-trans (f ∷ fs) (f ∷ by_slot fs) (by_slot (f ∷ fs)) (IsPermutation-cons f fs (by_slot fs) (sorted fs)) (inserted f (by_slot fs))

pub sorted_members : (z : Field) (fs : List Field) → SameMembers (by_slot fs) fs z
sorted_members z fs = (Contains-permutation (by_slot fs) fs z (IsPermutation-sym fs (by_slot fs) (sorted fs)), Contains-permutation fs (by_slot fs) z (sorted fs))

one_rises : (f g : Field) (gs rest : List Field) → Rises (g ∷ gs) → ((z : Field) → Contains (g ∷ gs) z → f.slot ≢ z.slot) → ((z : Field) → Contains rest z → Contains (f ∷ gs) z) → Rises rest
    → (b : Bool) → (b ≡ true → f.slot ≤ g.slot) → (f.slot ≤ g.slot → b ≡ true) → Rises (if b then f ∷ g ∷ gs else g ∷ rest)
one_rises f g gs rest r apart members ih true le _ = (λ z h. let at = contains_cases g z gs h in let a = apart g (contains_head g gs) in let b = le refl in let later = r.0 z in grind (arith, at, later), r)
one_rises f g gs rest r apart members ih false _ less = (λ z h. let at = contains_cases f z gs (members z h) in let later = r.0 z in grind (arith, at, later, less), ih)

insert_rises : (f : Field) (gs : List Field) → Rises gs → ((g : Field) → Contains gs g → f.slot ≢ g.slot) → Rises (insert_by_slot f gs)
insert_rises f [] r apart = (λ g h. absurd (omega (arith, h.1)), tt)
insert_rises f (g ∷ gs) r apart =
    one_rises f g gs (insert_by_slot f gs) r apart (λ z. Contains-permutation (insert_by_slot f gs) (f ∷ gs) z (IsPermutation-sym (f ∷ gs) (insert_by_slot f gs) (inserted f gs))) (insert_rises f gs r.1 (λ z h. apart z (contains_tail g z gs h))) (nat_le f.slot g.slot) (leb-true f.slot g.slot) (le-leb f.slot g.slot)

apart_tail : (f : Field) (fs : List Field) → AreApart (f ∷ fs) → AreApart fs
apart_tail f fs h = record { at = λ i j d a b e. (let w : suc i ≡ suc j = h.at (suc i) (suc j) d (omega arith) (omega arith) e in omega arith) }

apart_head : (f : Field) (fs : List Field) → AreApart (f ∷ fs) → (g : Field) → Contains fs g → f.slot ≢ g.slot
apart_head f fs h g c e = let w : 0 ≡ suc c.0 = h.at 0 (suc c.0) g (omega arith) (omega (arith, c.1)) (e ∙ ap (λ (f : Field). f.slot) (sym c.2)) in omega arith

pub sorted_rises : (fs : List Field) → AreApart fs → Rises (by_slot fs)
sorted_rises [] h = tt
sorted_rises (f ∷ fs) h = insert_rises f (by_slot fs) (sorted_rises fs (apart_tail f fs h)) (λ g c. apart_head f fs h g ((sorted_members g fs).0 c))

rises_from_order : (fs : List Field) → IsNonDecreasingBy (λ (f : Field). f.slot) fs → AreApart fs → Rises fs
rises_from_order [] up h = tt
rises_from_order (f ∷ fs) up h = (
  λ g c. (let a = apart_head f fs h g c in let b = up 0 (suc c.0) g (omega arith) (omega (arith, c.1)) in let e = ap (λ (f : Field). f.slot) c.2 in omega arith),
  rises_from_order fs (λ i j d a b. up (suc i) (suc j) d (omega arith) (omega arith)) (apart_tail f fs h),
)

apart_permutation : (xs ys : List Field) → IsPermutation xs ys → AreApart xs → AreApart ys
apart_permutation xs ys p h = record { at = once_permuted (λ (f : Field). f.slot) xs ys p h.at }

is_by_slot : (xs ys : List Field) → AreApart xs → IsPermutation xs ys → IsNonDecreasingBy (λ (f : Field). f.slot) ys → ys ≡ by_slot xs
is_by_slot xs ys apart p up =
    same_rising ys (by_slot xs) (rises_from_order ys up (apart_permutation xs ys p apart)) (sorted_rises xs apart)
    (λ z h. (sorted_members z xs).1 (Contains-permutation ys xs z (IsPermutation-sym xs ys p) h))
    (λ z h. Contains-permutation xs ys z p ((sorted_members z xs).0 h))

-- Live fields.
filter-map : {X Y : Type 0} (p : Y → Bool) (f : X → Y) (xs : List X) → filter p (map f xs) ≡ map f (filter (λ x. p (f x)) xs)
filter-map p f [] = refl
filter-map p f (x ∷ xs) = grind (arith, filter-map p f xs)

pub shorter : {X : Type 0} (p : X → Bool) (xs : List X) → length (filter p xs) ≤ length xs
shorter p [] = omega arith
shorter p (x ∷ xs) = grind (arith, shorter p xs)

pub filter_contains : (p : Field → Bool) (fs : List Field) (z : Field) → Contains (filter p fs) z → Contains fs z
filter_contains p fs z h = All-contains (Contains fs) (filter p fs) z (All-filter p (Contains fs) fs (All-contains_itself fs)) h

apart_front : (xs ys : List Field) → AreApart (xs ++ ys) → AreApart xs
apart_front xs ys h = record {
  at = λ i j d a b e.
      let long = length-append xs ys in
      h.at i j d (omega arith) (omega arith) (rw (get_or_append_left xs ys d i a, get_or_append_left xs ys d j b) e);
}

pub filter_apart : (p : Field → Bool) (fs : List Field) → AreApart fs → AreApart (filter p fs)
filter_apart p fs h = apart_front (filter p fs) _ (apart_permutation fs _ (IsPermutation-filter_both p (λ f. not (p f)) (λ f. refl) fs) h)

mapped_up : (rows : List FieldRow) → IsNonDecreasingBy (λ (r : FieldRow). r.slot) rows → IsNonDecreasingBy (λ (f : Field). f.slot) (map field_of rows)
mapped_up rows up = IsNonDecreasingBy-from_default (λ (f : Field). f.slot) (map field_of rows) (field_of blank_field) (λ i j le lt.
    let low : j < length rows = rw length-map at lt in
    let at = λ (k : ℕ) (below : k < length rows). get_or-map field_of rows k blank_field (field_of blank_field) below in
    rw (at i (omega arith), at j low) (up i j blank_field le low))

module _ (fields old new : List FieldRow) (apart : AreApart (map field_of fields)) (all : old ≡ filter (λ r. is_live (field_of r)) fields) (moved : IsPermutation old new) (up : IsNonDecreasingBy (λ (r : FieldRow). r.slot) new) where
  same : map field_of old ≡ filter is_live (map field_of fields)
  same = ap (map field_of) all ∙ sym (filter-map is_live field_of fields)

  moved_live : IsPermutation (filter is_live (map field_of fields)) (map field_of new)
  moved_live = subst (λ xs. IsPermutation xs (map field_of new)) same (IsPermutation-map field_of old new moved)

  -- the live rows that were sorted are the definition's
  pub live_value : map field_of new ≡ by_slot (filter is_live (map field_of fields))
  live_value = is_by_slot _ _ (filter_apart is_live (map field_of fields) apart) moved_live (mapped_up new up)

  -- and their slots rise
  pub live_rising : AreRising new
  live_rising =
      let a = apart_permutation _ _ moved_live (filter_apart is_live (map field_of fields) apart) in
      record {
        at = λ i j d lt within.
            let le = up i j d (omega arith) within in
            let low : i < length new = omega arith in
            let at = λ (k : ℕ) (below : k < length new). ap (λ (f : Field). f.slot) (get_or-map field_of new k d (field_of d) below) in
            let once = λ (e : (get_or new i d).slot ≡ (get_or new j d).slot). a.at i j (field_of d) (rw length-map low) (rw length-map within) (at i low ∙ e ∙ sym (at j within)) in
            grind (arith, le, once, lt);
      }

-- The field in the slot two below.
module _ (live : List FieldRow) (rising : AreRising live) (slot : ℕ) where
  slot_at : (k : ℕ) (d : FieldRow) → k < length live → (get_or (map field_of live) k (field_of d)).slot ≡ (get_or live k d).slot
  slot_at k d lt = ap (λ (f : Field). f.slot) (get_or-map field_of live k d (field_of d) lt)

  one_slot : (i j : ℕ) (d : FieldRow) → i < length live → j < length live → (get_or live i d).slot ≡ (get_or live j d).slot → i ≡ j
  one_slot i j d a b e = neither_below i j (λ lt. let w = rising.at i j d lt b in omega arith) (λ lt. let w = rising.at j i d lt a in omega arith)

  rising_order : IsSortedBy (λ (a b : FieldRow). is_lt (nat_cmp a.slot b.slot)) live
  rising_order k d _ lt = not_true _ (λ e. below_itself (get_or live (k + 1) d).slot (get_or live k d).slot e (rising.at k (k + 1) d (omega arith) lt)) where
    below_itself : (x y : ℕ) → is_lt (nat_cmp x y) ≡ true → y < x → ⊥
    below_itself x y e lt = grind (arith, e)

  pub found_below : (at : ℕ) (d : FieldRow) → 2 ≤ slot → at < length live → nat_cmp (get_or live at d).slot (slot - 2) ≡ Equal → Some at ≡ position (λ (g : Field). g.slot + 2 == slot) (map field_of live)
  found_below at d le lt tied =
      let here : (get_or live at d).slot ≡ slot - 2 = nat_tied _ _ tied in
      let it = slot_at at d lt in
      sym (found_position (λ (g : Field). g.slot + 2 == slot) (map field_of live) at (field_of d) (rw length-map lt) ((Decides-eqb _ slot).1 (omega arith))
      (λ j within passes.
      let low : j < length live = rw length-map at within in
      let there = (Decides-eqb ((get_or (map field_of live) j (field_of d)).slot + 2) slot).0 passes in
      let e = slot_at j d low in
      one_slot j at d low lt (omega arith)))

  pub none_two_below : slot < 2 → None ≡ position (λ (g : Field). g.slot + 2 == slot) (map field_of live)
  none_two_below lt = sym (no_position (λ (g : Field). g.slot + 2 == slot) (map field_of live) (λ j d within passes. let w = (Decides-eqb ((get_or (map field_of live) j d).slot + 2) slot).0 passes in omega arith))

  pub missed_below : (at : ℕ) → 2 ≤ slot → (IsNonDecreasingBy (λ (y : FieldRow). ordering_index (nat_cmp y.slot (slot - 2))) live → IsPartitionPoint (λ (y : FieldRow). nat_cmp y.slot (slot - 2) ≡ Less) (λ (y : FieldRow). nat_cmp y.slot (slot - 2) ≡ Greater) live at)
      → None ≡ position (λ (g : Field). g.slot + 2 == slot) (map field_of live)
  missed_below at le split = sym (no_position (λ (g : Field). g.slot + 2 == slot) (map field_of live) (λ j d within passes.
      let low : j < length live = rw length-map at within in
      let row = (slice_get_some live j low).0 in
      let there = (Decides-eqb ((get_or (map field_of live) j d).slot + 2) slot).0 passes in
      let e = ap (λ (f : Field). f.slot) (get_or-map field_of live j row d low) in
      let is : (get_or live j row).slot ≡ slot - 2 = omega arith in
      search_missed nat_cmp nat_cmp_total (λ (y : FieldRow). y.slot) live (slot - 2) at rising_order split j row low (ap (λ n. nat_cmp n (slot - 2)) is ∙ tied_itself nat_cmp_total (slot - 2))))
