-- Holdings are found by the order of their fields.
use Rattle.std.proofs.Common.{◌≡◌, ◌⊎◌, inl, inr, ℕ, ◌<◌, ◌≤◌, Bool, true, false, List, length, map, get_or, Some, None, option_map, refl, sym, ◌∙◌, ap, subst, arith, Ordering, Less, Equal, Greater}
use Rattle.std.specs.Prelude.{◌==◌, ◌&&◌, ◌||◌, nat_lt, slice_get}
use Rattle.std.proofs.lemmas.{Bool.Decides.nat_tests, Cmp.nat_cmp_total, Cmp.on_total, Cmp.then_total, List.length-map, Option.get_or_from_slice_get, Option.slice_get-get_or}
use Rattle.std.proofs.lemmas.{Option.slice_get-map, Option.slice_get_within, List.Sorted.ranks_by, List.Sorted.sorted_far}
use Rattle.std.specs.{Cmp.IsTotalOrder, Cmp.IsStrictWeakOrder, List.Sorted.IsPartitionedBy, List.Sorted.IsPartitionPoint, Ordering.nat_cmp, Ordering.is_lt, Ordering.ordering_then}
use Rattle.fb_schema.specs.Sorting.{IsOrderOf, entry_cmp}
use Rattle.fb_schema.proofs.{Numbers.le_or_lt, OrderLemmas.is_key, OrderLemmas.stands, Search.nat_tied}
use Rattle.fb_strict.specs.{declared.holding.Holding.Holding, Holding.Slotted, Holding.field_cmp, Holding.field_of, Holding.held_in, Holding.is_before, Holding.is_of}
use Rattle.fb_strict.specs.Holding.{IsFirstPlace}
use Rattle.fb_strict.proofs.Holds.{find_first, find_none}

-- The order of fields, and of entries.

fields_total : IsTotalOrder field_cmp
fields_total = then_total (on_total (λ (f : Slotted). f.0) nat_cmp_total) (on_total (λ (f : Slotted). f.1) nat_cmp_total)

entries_total : IsTotalOrder (entry_cmp field_cmp)
entries_total = then_total (on_total (λ (e : Slotted × ℕ). e.0) fields_total) (on_total (λ (e : Slotted × ℕ). e.1) nat_cmp_total)

weak : IsStrictWeakOrder (λ (x y : Slotted × ℕ). is_lt (entry_cmp field_cmp x y))
weak = ranks_by entries_total (λ x. x)

-- an entry isn't behind another
abbrev IsUpTo : Slotted × ℕ → Slotted × ℕ → Type 0
IsUpTo a b = (a.0.0 < b.0.0) ⊎ ((a.0.0 ≡ b.0.0) × ((a.0.1 < b.0.1) ⊎ ((a.0.1 ≡ b.0.1) × (a.1 ≤ b.1))))

not_below : (p q : Ordering) → is_lt (ordering_then p q) ≡ false → (p ≡ Greater) ⊎ ((p ≡ Equal) × (is_lt q ≡ false))
not_below Less q h = absurd (cc)
not_below Equal q h = inr (refl, h)
not_below Greater q h = inl refl

then_greater : (p q : Ordering) → ordering_then p q ≡ Greater → (p ≡ Greater) ⊎ ((p ≡ Equal) × (q ≡ Greater))
then_greater Less q h = absurd (cc)
then_greater Equal q h = inr (refl, h)
then_greater Greater q h = inl refl

then_equal : (p q : Ordering) → ordering_then p q ≡ Equal → (p ≡ Equal) × (q ≡ Equal)
then_equal Less q h = absurd (cc)
then_equal Equal q h = (refl, h)
then_equal Greater q h = absurd (cc)

is_above : (x y : ℕ) → nat_cmp x y ≡ Greater → y < x
is_above x y h = grind (arith, h)

isnt_below : (x y : ℕ) → is_lt (nat_cmp x y) ≡ false → y ≤ x
isnt_below x y h = grind (arith, h)

upto : (a b : Slotted × ℕ) → is_lt (entry_cmp field_cmp b a) ≡ false → IsUpTo a b
upto a b h = elim (not_below (field_cmp b.0 a.0) (nat_cmp b.1 a.1) h) [
  | inl above ↦ elim (then_greater (nat_cmp b.0.0 a.0.0) (nat_cmp b.0.1 a.0.1) above) [
    | inl object ↦ inl (is_above b.0.0 a.0.0 object)
    | inr slot ↦ inr (sym (nat_tied b.0.0 a.0.0 slot.0), inl (is_above b.0.1 a.0.1 slot.1))
  ]
  | inr tied ↦ (let t = then_equal (nat_cmp b.0.0 a.0.0) (nat_cmp b.0.1 a.0.1) tied.0 in inr (sym (nat_tied b.0.0 a.0.0 t.0), inr (sym (nat_tied b.0.1 a.0.1 t.1), isnt_below b.1 a.1 tied.1)))
]

-- Entries before a field, and of it.

told_before : (k slot : ℕ) (e : Slotted × ℕ) → is_before k slot e ≡ true → (e.0.0 < k) ⊎ ((e.0.0 ≡ k) × (e.0.1 < slot))
told_before k slot e h = by e.0.0 e.0.1 h
  where
    by : (a b : ℕ) → (nat_lt a k || ((a == k) && nat_lt b slot)) ≡ true → (a < k) ⊎ ((a ≡ k) × (b < slot))
    by a b h = grind (arith, nat_tests, h)

comes_before : (k slot : ℕ) (e : Slotted × ℕ) → (e.0.0 < k) ⊎ ((e.0.0 ≡ k) × (e.0.1 < slot)) → is_before k slot e ≡ true
comes_before k slot e h = by e.0.0 e.0.1 h
  where
    by : (a b : ℕ) → (a < k) ⊎ ((a ≡ k) × (b < slot)) → (nat_lt a k || ((a == k) && nat_lt b slot)) ≡ true
    by a b h = grind (arith, nat_tests, h)

stays_before : (k slot : ℕ) (a b : Slotted × ℕ) → IsUpTo a b → is_before k slot b ≡ true → is_before k slot a ≡ true
stays_before k slot a b up h = comes_before k slot a (by a.0.0 a.0.1 b.0.0 b.0.1 a.1 b.1 up (told_before k slot b h))
  where
    by : (x y z w i j : ℕ) → (x < z) ⊎ ((x ≡ z) × ((y < w) ⊎ ((y ≡ w) × (i ≤ j)))) → (z < k) ⊎ ((z ≡ k) × (w < slot)) → (x < k) ⊎ ((x ≡ k) × (y < slot))
    by x y z w i j up h = grind (arith, up, h)

-- what is neither before a field nor behind it is of it
both : (k slot : ℕ) (e : Slotted × ℕ) (j : ℕ) → is_before k slot e ≡ false → IsUpTo e ((k, slot), j) → is_of k slot e ≡ true
both k slot e j h up = by e.0.0 e.0.1 e.1 h up
  where
    by : (a b i : ℕ) → (nat_lt a k || ((a == k) && nat_lt b slot)) ≡ false → (a < k) ⊎ ((a ≡ k) × ((b < slot) ⊎ ((b ≡ slot) × (i ≤ j)))) → ((a == k) && (b == slot)) ≡ true
    by a b i h up = grind (arith, nat_tests, h, up)

parts_of : (k slot : ℕ) (e : Slotted × ℕ) → is_of k slot e ≡ true → (e.0.0 ≡ k) × (e.0.1 ≡ slot)
parts_of k slot e h = by e.0.0 e.0.1 h
  where
    by : (a b : ℕ) → ((a == k) && (b == slot)) ≡ true → (a ≡ k) × (b ≡ slot)
    by a b h = grind (arith, nat_tests, h)

-- A search among fields in order.

module _ (fields : List Slotted) (order : List (Slotted × ℕ)) (h : IsOrderOf field_cmp fields order) (k slot : ℕ) where
  far : (u v : ℕ) (d : Slotted × ℕ) → u ≤ v → v < length order → IsUpTo (get_or order u d) (get_or order v d)
  far u v d le lt = upto _ _ (sorted_far _ weak order h.rises u v d le lt)

  pub parts : IsPartitionedBy (is_before k slot) order
  parts i j d le lt before = stays_before k slot (get_or order i d) (get_or order j d) (far i j d le lt) before

  module _ (first : ℕ) (point : IsPartitionPoint (λ (e : Slotted × ℕ). is_before k slot e ≡ true) (λ (e : Slotted × ℕ). is_before k slot e ≡ false) order first) where
    -- where a field stands, it stands in the order from there on
    after : (j : ℕ) → slice_get fields j ≡ Some (k, slot) → (u : ℕ) × (first ≤ u) × (u < length order) × (get_or order u ((k, slot), j) ≡ ((k, slot), j))
    after j at =
        let s = stands field_cmp fields_total fields order h j (k, slot) (slice_get_within fields j (k, slot) at) in
        let here = subst (λ (f : Slotted). get_or order s.0 (f, j) ≡ (f, j)) (get_or_from_slice_get fields j (k, slot) (k, slot) at) s.2 in (
          s.0,
          elim (le_or_lt first s.0) [ inl le ↦ le | inr low ↦ absurd (isnt_before k slot (ap (is_before k slot) (sym here) ∙ point.0 s.0 ((k, slot), j) (omega arith) low)) ],
          s.1,
          here,
        )
      where
        isnt_before : (a b : ℕ) → (nat_lt a a || ((a == a) && nat_lt b b)) ≡ true → ⊥
        isnt_before a b h = grind (arith, nat_tests, h)

    -- so the entry there isn't behind it
    reaches : (e : Slotted × ℕ) → slice_get order first ≡ Some e → (j : ℕ) → slice_get fields j ≡ Some (k, slot) → IsUpTo e ((k, slot), j)
    reaches e at j there =
        let a = after j there in
        let d : Slotted × ℕ = ((k, slot), j) in
        subst (λ (x : Slotted × ℕ). IsUpTo x ((k, slot), j)) (get_or_from_slice_get order first e d at) (subst (λ (x : Slotted × ℕ). IsUpTo (get_or order first d) x) a.3 (far first a.0 d a.1 a.2))

    pub found : (e : Slotted × ℕ) → slice_get order first ≡ Some e → is_of k slot e ≡ true → IsFirstPlace fields k slot (Some e.1)
    found e at of =
        let lt = slice_get_within order first e at in
        let here = get_or_from_slice_get order first e e at in
        let own = subst (λ (x : Slotted × ℕ). (x.1 < length fields) × (get_or fields x.1 e.0 ≡ x.0)) here (is_key field_cmp fields_total fields order h first e lt) in
        let its = parts_of k slot e of in (
          slice_get-get_or fields e.1 e.0 own.0 ∙ ap Some (own.1 ∙ (λ i. (its.0 i, its.1 i))),
          λ j low there. least e.0.0 e.0.1 e.1 j its.0 its.1 low (reaches e at j there),
        )
      where
        least : (a b i j : ℕ) → a ≡ k → b ≡ slot → j < i → (a < k) ⊎ ((a ≡ k) × ((b < slot) ⊎ ((b ≡ slot) × (i ≤ j)))) → ⊥
        least a b i j x y low up = grind (arith, x, y, low, up)

    pub missed : (e : Slotted × ℕ) → slice_get order first ≡ Some e → is_of k slot e ≡ false → IsFirstPlace fields k slot None
    missed e at isnt i there =
        let lt = slice_get_within order first e at in
        let past : is_before k slot e ≡ false = ap (is_before k slot) (sym (get_or_from_slice_get order first e e at)) ∙ point.1 first e (omega arith) lt in
        let w : false ≡ true = sym isnt ∙ both k slot e i past (reaches e at i there) in
        cc

    pub past_all : length order ≤ first → IsFirstPlace fields k slot None
    past_all past i there = let a = after i there in let le = a.1 in let lt = a.2 in omega (arith, past, le, lt)

-- A search among holdings.

module _ (hs : List Holding) (k slot : ℕ) where
  abbrev its : Holding → Bool
  its h = (h.object == k) && (h.slot == slot)

  of_field : (i : ℕ) (x : Holding) → slice_get hs i ≡ Some x → slice_get (map field_of hs) i ≡ Some (field_of x)
  of_field i x at = slice_get-map field_of hs i ∙ ap (option_map field_of) at

  isnt : (i : ℕ) (x : Holding) → slice_get hs i ≡ Some x → (slice_get (map field_of hs) i ≡ Some (k, slot) → ⊥) → its x ≡ false
  isnt i x at never = by (its x) refl
    where
      by : (y : Bool) → its x ≡ y → its x ≡ false
      by false e = e
      by true e = absurd (let p = parts_of k slot (field_of x, 0) e in never (of_field i x at ∙ ap Some (λ i. (p.0 i, p.1 i))))

  is : (i : ℕ) (x : Holding) → slice_get hs i ≡ Some x → slice_get (map field_of hs) i ≡ Some (k, slot) → its x ≡ true
  is i x at there =
      let e : Some (field_of x) ≡ Some (k, slot) = sym (of_field i x at) ∙ there in
      let same : field_of x ≡ (k, slot) = cc in
      equal x.object x.slot (ap (λ (f : Slotted). f.0) same) (ap (λ (f : Slotted). f.1) same)
    where
      equal : (a b : ℕ) → a ≡ k → b ≡ slot → ((a == k) && (b == slot)) ≡ true
      equal a b x y = grind (arith, nat_tests, x, y)

  pub place_within : (i : ℕ) → IsFirstPlace (map field_of hs) k slot (Some i) → i < length hs
  place_within i h = subst (λ n. i < n) (length-map hs field_of) (slice_get_within (map field_of hs) i (k, slot) h.0)

  pub held_first : (i : ℕ) (d : Holding) → IsFirstPlace (map field_of hs) k slot (Some i) → held_in hs k slot ≡ Some (get_or hs i d).held
  held_first i d h =
      let at = slice_get-get_or hs i d (place_within i h) in
      ap (option_map (λ (h : Holding). h.held)) (find_first its hs i (get_or hs i d) at (is i (get_or hs i d) at h.0) (λ j y low there. isnt j y there (h.1 j low)))

  pub held_nowhere : IsFirstPlace (map field_of hs) k slot None → held_in hs k slot ≡ None
  held_nowhere h = ap (option_map (λ (h : Holding). h.held)) (find_none its hs (λ j y there. isnt j y there (h j)))
