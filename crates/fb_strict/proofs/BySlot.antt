-- The live field of a table in a slot, as a search among the views of its fields finds it.
use Rattle.std.proofs.Common.{◌≡◌, ℕ, ◌+◌, ◌<◌, Bool, true, false, List, length, map, get_or, Some, option_map, refl, sym, ◌∙◌, ap, subst, arith, Less, Equal, Greater}
use Rattle.std.specs.Prelude.{◌==◌, ◌&&◌, slice_get}
use Rattle.std.proofs.lemmas.{Bool.Decides.Decides-eqb, Cmp.nat_cmp_total, Cmp.tied_itself, Option.get_or_from_slice_get, Option.slice_get-map, List.Folds.list_any_at}
use Rattle.std.proofs.lemmas.List.Folds.{list_any_none}
use Rattle.std.specs.{List.list_any, List.Sorted.IsSortedBy, List.Sorted.IsNonDecreasingBy, List.Sorted.IsPartitionPoint, Ordering.nat_cmp, Ordering.is_lt, Ordering.ordering_index}
use Rattle.fb_schema.specs.{declared.views.FieldView.FieldView, Live.Live, Live.live_fields, Live.live_of_view, Rows.Rows, Served.IsServed}
use Rattle.fb_schema.proofs.{KeyLemmas.list_any-map, Numbers.get_or_default, Numbers.neither_below, Numbers.slice_get_some, Search.nat_tied, Search.not_true, Search.search_missed}
use Rattle.fb_bfbs.specs.ByteFields.{is_bytes}
use Rattle.fb_strict.specs.Holding.{has_bytes}
use Rattle.fb_strict.proofs.Holds.{are_equal, are_not, both_are, first_isnt, second_isnt}

module _ (S : Rows) (served : IsServed S) (k slot : ℕ) (fields : List FieldView) (are : map live_of_view fields ≡ live_fields S k) where
  stands : (i : ℕ) (d : FieldView) → i < length fields → slice_get (live_fields S k) i ≡ Some (live_of_view (get_or fields i d))
  stands i d lt =
      let x = slice_get_some fields i lt in
      subst (λ (l : List Live). slice_get l i ≡ option_map live_of_view (slice_get fields i)) are (slice_get-map live_of_view fields i)
      ∙ ap (option_map live_of_view) x.1 ∙ ap (λ v. Some (live_of_view v)) (sym (get_or_from_slice_get fields i x.0 d x.1))

  rises : (i j : ℕ) (d e : FieldView) → i < j → j < length fields → (get_or fields i d).slot < (get_or fields j e).slot
  rises i j d e low lt = served.rising k i j _ _ (stands i d (omega (arith, low, lt))) (stands j e lt) low

  rising_order : IsSortedBy (λ (a b : FieldView). is_lt (nat_cmp a.slot b.slot)) fields
  rising_order i d _ lt = not_true _ (λ e. below_itself (get_or fields (i + 1) d).slot (get_or fields i d).slot e (rises i (i + 1) d d (omega arith) lt)) where
    below_itself : (x y : ℕ) → is_lt (nat_cmp x y) ≡ true → y < x → ⊥
    below_itself x y e lt = grind (arith, e)

  abbrev its : FieldView → Bool
  its v = (v.slot == slot) && is_bytes v.kind

  by_views : has_bytes S k slot ≡ list_any its fields
  by_views = ap (list_any (λ (f : Live). (f.slot == slot) && is_bytes f.kind)) (sym are) ∙ list_any-map (λ (f : Live). (f.slot == slot) && is_bytes f.kind) live_of_view fields

  -- where a search finds none, none is there
  pub missed : (place : ℕ) → (IsNonDecreasingBy (λ (y : FieldView). ordering_index (nat_cmp y.slot slot)) fields → IsPartitionPoint (λ (y : FieldView). nat_cmp y.slot slot ≡ Less) (λ (y : FieldView). nat_cmp y.slot slot ≡ Greater) fields place)
      → has_bytes S k slot ≡ false
  missed place split = by_views ∙ list_any_none its fields (λ i d lt. first_isnt _ _ (are_not _ _ (λ e.
      search_missed nat_cmp nat_cmp_total (λ (y : FieldView). y.slot) fields slot place rising_order split i d lt (ap (λ n. nat_cmp n slot) e ∙ tied_itself nat_cmp_total slot))))

  -- where it finds one, that is the only one
  module _ (place : ℕ) (d : FieldView) (lt : place < length fields) (tied : (d : FieldView) → nat_cmp (get_or fields place d).slot slot ≡ Equal) where
    abbrev it : FieldView
    it = get_or fields place d

    has_slot : it.slot ≡ slot
    has_slot = nat_tied it.slot slot (tied d)

    only : (i : ℕ) (e : FieldView) → i < length fields → (get_or fields i e).slot ≡ slot → i ≡ place
    only i e low same = neither_below i place (λ b. let r = rises i place e d b lt in omega (arith, r, same, has_slot)) (λ b. let r = rises place i d e b low in omega (arith, r, same, has_slot))

    others : is_bytes it.kind ≡ false → (i : ℕ) (e : FieldView) → i < length fields → (x : Bool) → ((get_or fields i e).slot == slot) ≡ x → its (get_or fields i e) ≡ false
    others isnt i e low false h = first_isnt _ _ h
    others isnt i e low true h =
        let one = only i e low ((Decides-eqb (get_or fields i e).slot slot).0 h) in
        let same : get_or fields i e ≡ it = ap (λ n. get_or fields n e) one ∙ get_or_default fields place e d lt in
        second_isnt _ _ h (ap (λ (w : FieldView). is_bytes w.kind) same ∙ isnt)

    by_kind : (x : Bool) → is_bytes it.kind ≡ x → list_any its fields ≡ x
    by_kind true h = list_any_at its fields place d lt (both_are _ _ (are_equal _ _ has_slot) h)
    by_kind false h = list_any_none its fields (λ i e low. others h i e low _ refl)

    pub found : is_bytes it.kind ≡ has_bytes S k slot
    found = sym (by_views ∙ by_kind (is_bytes it.kind) refl)
