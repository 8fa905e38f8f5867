-- The steps of the walk over the members of a union.
use Rattle.std.proofs.Common.{◌≡◌, ℕ, ◌<◌, pos, ◌⊎◌, inl, inr, Bool, true, false, not, ◌&&◌, List, [], ◌∷◌, slice_get, take, map, Option, Some, None, refl, sym, ◌∙◌, ap, Decides, arith, bytes_eq, Ordering, Equal, ◌||◌}
use Rattle.fb_schema.proofs.{DemandLaws.clear_line, KeyLemmas.test_from_again, KeyLemmas.is_at_test, KeyLemmas.never_again, Numbers.slice_get_some, Numbers.all_true}
use Rattle.fb_schema.proofs.WalkLemmas.{names_agree, mapped_at, values_agree}
use Rattle.std.proofs.lemmas.List.{length-map, Folds.Any-from_list_any, Folds.list_any-from_Any}
use Rattle.std.specs.{Cmp.signed_Decides, List.list_any, Ordering.int_cmp, Ordering.bool_cmp, Ordering.int_eq, Ordering.is_eq, Ordering.ordering_then}
use Rattle.fb_schema.specs.{declared.rows.MemberRow.MemberRow, Sorting.IsAgain, Sorting.IsFirstAgain, Sorting.name_cmp, Sorting.member_cmp, Sorting.member_value}
use Rattle.fb_schema.specs.{Sorting.member_key, Rows.Rows, Rows.Member, Rows.member_of_row, Demands.is_at, Demands.first_code, Demands.stands_before, Demands.same_value}
use Rattle.fb_schema.specs.Demands.{same_member_name, Demand, member_demands, members_asked}

-- both rows stand for the union without a value, or neither does, and they have one name
abbrev same_key : Member → Member → Bool
same_key a b = is_eq (bool_cmp (int_eq a.value (pos 0)) (int_eq b.value (pos 0))) && bytes_eq a.name b.name

pub both_equal : (p q : Ordering) (b : Bool) → Decides b (q ≡ Equal) → Decides (is_eq p && b) (ordering_then p q ≡ Equal)
both_equal p q b d = grind (arith, d)

keys_agree : (a b : MemberRow) → Decides (same_key (member_of_row a) (member_of_row b)) (member_cmp (member_key a) (member_key b) ≡ Equal)
keys_agree a b = both_equal (bool_cmp (int_eq a.value (pos 0)) (int_eq b.value (pos 0))) (name_cmp a.name b.name) (bytes_eq a.name.now b.name.now) (names_agree a.name.now b.name.now)

by_pair : (zero_a zero_b named some other : Bool) → (not zero_b && some) ≡ other → (not zero_b && ((is_eq (bool_cmp zero_a zero_b) && named) || some)) ≡ ((not zero_a && not zero_b && named) || other)
by_pair zero_a zero_b named some other h = grind (arith, h)

-- of a member the test by keys is the one by names, and of the union without a value none is asked
by_key : (m : Member) (ys : List Member) → (not (int_eq m.value (pos 0)) && list_any (λ y. same_key y m) ys) ≡ list_any (λ y. same_member_name y m) ys
by_key m [] = grind arith
by_key m (y ∷ ys) = by_pair (int_eq y.value (pos 0)) (int_eq m.value (pos 0)) (bytes_eq y.name m.name) _ _ (by_key m ys)

-- two rows without a value have one value
none_value : (members : List Member) (p : ℕ) (m : Member) → int_eq m.value (pos 0) ≡ true → stands_before same_key members p m ≡ true → stands_before same_value members p m ≡ true
none_value members p m e h =
    let a = Any-from_list_any (λ y. same_key y m) (take p members) h in
    let y = a.1 in
    let here = (signed_Decides m.value (pos 0)).0 e in
    let there = (signed_Decides y.value (pos 0)).0 (grind (arith, e, a.4)) in
    list_any-from_Any (λ y. same_value y m) (take p members) (a.0, y, a.2, a.3, (signed_Decides y.value m.value).1 (there ∙ sym here))

pub is_true_or_false : (b : Bool) → (b ≡ true) ⊎ (b ≡ false)
is_true_or_false b = grind arith

module _ (rows : Rows) (members : List MemberRow) where
  abbrev pub asked_at : ℕ → MemberRow → List Demand
  asked_at p row = member_demands rows (member_of_row row) (stands_before same_value (map member_of_row members) p (member_of_row row)) (stands_before same_member_name (map member_of_row members) p (member_of_row row))

  pub clear_demands : (q : ℕ) (row : MemberRow) → slice_get members q ≡ Some row → first_code (members_asked rows (map member_of_row members) q) ≡ None → first_code (asked_at q row) ≡ None
  clear_demands q row at clear = rw (mapped_at member_of_row members q row at) at clear

  not_taken_member : (q : ℕ) → first_code (members_asked rows (map member_of_row members) q) ≡ None → (row : MemberRow) → slice_get members q ≡ Some row → stands_before same_value (map member_of_row members) q (member_of_row row) ≡ false
  not_taken_member q clear row at = let line = clear_line (asked_at q row) (clear_demands q row at clear) 0 _ refl in grind (arith, line)

  pub value_not_again : (q : ℕ) → first_code (members_asked rows (map member_of_row members) q) ≡ None → IsAgain int_cmp (map member_value members) q → ⊥
  value_not_again q clear a = never_again int_cmp member_value member_of_row same_value values_agree members q a (not_taken_member q clear)

  pub name_not_again : (q : ℕ) → first_code (members_asked rows (map member_of_row members) q) ≡ None → IsAgain member_cmp (map member_key members) q → ⊥
  name_not_again q clear a =
      let here = slice_get_some members q (rw length-map at a.within) in
      let row = here.0 in
      let same = test_from_again member_cmp member_key member_of_row same_key keys_agree members q row here.1 a in
      elim (is_true_or_false (int_eq row.value (pos 0))) [
        | inl none ↦ (let w : true ≡ false = sym (none_value (map member_of_row members) q (member_of_row row) none same) ∙ not_taken_member q clear row here.1 in cc)
        | inr real ↦ (
            let named = sym (by_key (member_of_row row) (take q (map member_of_row members))) ∙ all_true _ _ (ap not real) same in
            let w : true ≡ false = sym named ∙ clear_line (asked_at q row) (clear_demands q row here.1 clear) 1 _ refl in cc)
      ]

  -- what the walk computes at p is what is demanded there
  pub member_code : (p : ℕ) (row : MemberRow) (value_again name_again : Option ℕ) (taken named : Bool) → slice_get members p ≡ Some row
      → IsFirstAgain int_cmp (map member_value members) value_again → IsFirstAgain member_cmp (map member_key members) name_again
      → ((q : ℕ) → q < p → first_code (members_asked rows (map member_of_row members) q) ≡ None)
      → taken ≡ is_at value_again p → named ≡ (not (int_eq row.value (pos 0)) && is_at name_again p)
      → first_code (member_demands rows (member_of_row row) taken named) ≡ first_code (members_asked rows (map member_of_row members) p)
  member_code p row value_again name_again taken named at h k clear t n =
      let same_taken = t ∙ is_at_test int_cmp member_value member_of_row same_value values_agree members p row at value_again h (λ q lt. value_not_again q (clear q lt)) in
      let same_named = n
      ∙ ap (λ b. not (int_eq row.value (pos 0)) && b) (is_at_test member_cmp member_key member_of_row same_key keys_agree members p row at name_again k (λ q lt. name_not_again q (clear q lt)))
      ∙ by_key (member_of_row row) (take p (map member_of_row members)) in
      rw (mapped_at member_of_row members p row at) (λ i. first_code (member_demands rows (member_of_row row) (same_taken i) (same_named i)))
