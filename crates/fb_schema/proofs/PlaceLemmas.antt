-- Keys are found by their order.
use Rattle.std.proofs.Common.{◌≡◌, ℕ, ◌<◌, Bool, List, length, get_or, map, Option, Some, None, sym, ◌∙◌, ap, arith, position, Decides, HoldsAt, Ordering, Less, Equal, Greater, slice_get, option_and_then, find}
use Rattle.fb_schema.proofs.{KeyLemmas.again_at, Numbers.get_or_default, Numbers.slice_get_some, Numbers.neither_below, OrderLemmas.is_key, OrderLemmas.stands}
use Rattle.fb_schema.proofs.{PositionLemmas.found_position, PositionLemmas.no_position, Search.search_missed, FindLemmas.find_by_position}
use Rattle.std.proofs.lemmas.{List.length-map, List.get_or-map, Option.slice_get-get_or}
use Rattle.std.specs.{Cmp.IsTotalOrder, List.Sorted.IsSortedBy, List.Sorted.IsNonDecreasingBy, List.Sorted.IsPartitionPoint, Ordering.is_lt, Ordering.ordering_index}
use Rattle.std.specs.Ordering.{ordering_reverse}
use Rattle.fb_schema.specs.Sorting.{IsOrderOf, IsPlaceOf, IsAgain}

module _ {K : Type 0} (R : K → K → Ordering) (o : IsTotalOrder R) (keys : List K) (order : List (K × ℕ)) (h : IsOrderOf R keys order) (key : K) where
  keys_rise : IsSortedBy (λ (a b : K × ℕ). is_lt (R a.0 b.0)) order
  keys_rise k d le lt = let r = h.rises k d le lt in grind (arith, r)

  pub place_found : (at : ℕ) → at < length order → (d : K × ℕ) → HoldsAt (λ (e : K × ℕ). R e.0 key ≡ Equal) order at → IsPlaceOf R keys key (Some (get_or order at d).1)
  place_found at lt d holds =
      let k = is_key R o keys order h at d lt in
      (k.0, λ e. ap (λ z. R z key) (get_or_default keys _ e d.0 k.0 ∙ k.1) ∙ holds d)

  pub place_missing : (at : ℕ) → (IsNonDecreasingBy (λ (e : K × ℕ). ordering_index (R e.0 key)) order → IsPartitionPoint (λ (e : K × ℕ). R e.0 key ≡ Less) (λ (e : K × ℕ). R e.0 key ≡ Greater) order at) → IsPlaceOf R keys key None
  place_missing at split = λ k d lt same.
      let u = stands R o keys order h k d lt in
      search_missed R o (λ (e : K × ℕ). e.0) order key at keys_rise split u.0 (get_or keys k d, k) u.1 (ap (λ (e : K × ℕ). R e.0 key) u.2 ∙ same)

-- The place of a key is the position of its row, where no two keys are alike.
module _ {X Y K : Type 0} (R : K → K → Ordering) (o : IsTotalOrder R) (name : X → K) (f : X → Y) (xs : List X) (key : K) (p : Y → Bool) (agrees : (k : ℕ) (x : X) → slice_get xs k ≡ Some x → Decides (p (f x)) (R (name x) key ≡ Equal)) (none : (q : ℕ) → IsAgain R (map name xs) q → ⊥) where
  agrees_at : (k : ℕ) (x : X) → k < length xs → Decides (p (get_or (map f xs) k (f x))) (R (get_or (map name xs) k (name x)) key ≡ Equal)
  agrees_at k x lt = rw (get_or-map f xs k x (f x) lt, get_or-map name xs k x (name x) lt) (agrees k (get_or xs k x) (slice_get-get_or xs k x lt))

  alike_one : (i j : ℕ) (d : K) → i < length (map name xs) → j < length (map name xs) → R (get_or (map name xs) i d) key ≡ Equal → R (get_or (map name xs) j d) key ≡ Equal → i ≡ j
  alike_one i j d a b e e' = neither_below i j (λ lt. none j (again_at R (map name xs) i j d lt b (alike _ _ e e'))) (λ lt. none i (again_at R (map name xs) j i d lt a (alike _ _ e' e))) where
    alike : (y z : K) → R y key ≡ Equal → R z key ≡ Equal → R y z ≡ Equal
    alike y z e e' = o.congr y key z e ∙ o.antisymm key z ∙ ap ordering_reverse e'

  pub place_position : (place : Option ℕ) → IsPlaceOf R (map name xs) key place → place ≡ position p (map f xs)
  place_position None h = sym (no_position p (map f xs) (λ j d within e.
      let lt : j < length xs = rw length-map at within in
      let x = (slice_get_some xs j lt).0 in
      h j (name x) (rw length-map lt) ((agrees_at j x lt).0 (ap p (get_or_default (map f xs) j (f x) d within) ∙ e))))
  place_position (Some k) h =
      let lt : k < length xs = rw length-map at h.0 in
      let x = (slice_get_some xs k lt).0 in
      sym (found_position p (map f xs) k (f x) (rw length-map lt) ((agrees_at k x lt).1 (h.1 (name x))) (λ j within e.
      let low : j < length xs = rw length-map at within in
      alike_one j k (name x) (rw length-map low) h.0 ((agrees_at j x low).0 e) (h.1 (name x))))

  -- and its row is the one that is found
  pub place_find : (place : Option ℕ) → IsPlaceOf R (map name xs) key place → find p (map f xs) ≡ option_and_then (slice_get (map f xs)) place
  place_find place h = find_by_position p (map f xs) ∙ ap (option_and_then (slice_get (map f xs))) (sym (place_position place h))
