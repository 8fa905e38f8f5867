-- The steps of the walk over the rows.
use Rattle.std.proofs.Common.{◌≡◌, ℕ, ◌<◌, ◌≤◌, ℤ, inl, inr, Bool, List, [], length, slice_get, map, Option, Some, None, refl, ◌∙◌, ap, arith, Decides, option_map, Bor, nat_cmp, int_cmp, bytes_eq, Equal}
use Rattle.std.proofs.lemmas.{List.length-map, Option.slice_get-map, Slice.Eq.bytes_eq-Decides, Bool.Decides.Decides-eqb, Map.Lookups.exact_bytes, Cmp.nat_list_cmp_total}
use Rattle.std.proofs.lemmas.Cmp.{nat_cmp_total, tied_itself, on_total}
use Rattle.std.specs.Cmp.{Equal-is, IsTotalOrder, Lexicographic.slice_cmp}
use Rattle.fb_schema.specs.declared.{flat.ObjectPart.ObjectPart, rows.FieldRow.FieldRow, rows.MemberRow.MemberRow, kinds.TypeField.TheVariants.ForUnion}
use Rattle.fb_schema.specs.{declared.kinds.TypeField.TheVariants.ForUnions, Sorting.IsAgain, Sorting.IsFirstAgain, Sorting.name_cmp, Sorting.object_name, Sorting.field_name}
use Rattle.fb_schema.specs.{Sorting.field_slot, Sorting.member_value, Rows.Rows, Rows.field_of, Rows.member_of_row, FlatRows.object_in, Demands.Demand, Demands.is_at}
use Rattle.fb_schema.specs.Demands.{first_code, same_object_name, same_field_name, same_slot, same_value, struct_field_demands, struct_asked, Demand, table_field_demands}
use Rattle.fb_schema.specs.Demands.{table_asked, demands_of_table_field, stands_below}
use Rattle.fb_schema.proofs.{DemandLaws.clear_line, KeyLemmas.is_at_test, KeyLemmas.never_again, Numbers.slice_get_past, Numbers.le_or_lt, Search.nat_tied}

pub names_agree : (a b : List ℕ) → Decides (bytes_eq a b) (slice_cmp nat_cmp a b ≡ Equal)
names_agree a b = (
  λ e. ap (λ x. slice_cmp nat_cmp x b) ((bytes_eq-Decides a b).0 e) ∙ tied_itself nat_list_cmp_total b,
  λ e. (bytes_eq-Decides a b).1 (exact_bytes a b e),
)

pub names_total : IsTotalOrder name_cmp
names_total = on_total (λ (b : Bor (List ℕ)). b.now) nat_list_cmp_total

pub field_names_agree : (a b : FieldRow) → Decides (same_field_name (field_of a) (field_of b)) (name_cmp (field_name a) (field_name b) ≡ Equal)
field_names_agree a b = names_agree a.name.now b.name.now

pub object_names_agree : (fields : List FieldRow) (a b : ObjectPart) → Decides (same_object_name (object_in fields a) (object_in fields b)) (name_cmp (object_name a) (object_name b) ≡ Equal)
object_names_agree fields a b = names_agree a.name.now b.name.now

pub slots_agree : (a b : FieldRow) → Decides (same_slot (field_of a) (field_of b)) (nat_cmp (field_slot a) (field_slot b) ≡ Equal)
slots_agree a b = (
  λ e. ap (λ x. nat_cmp x b.slot) ((Decides-eqb a.slot b.slot).0 e) ∙ tied_itself nat_cmp_total b.slot,
  λ e. (Decides-eqb a.slot b.slot).1 (nat_tied a.slot b.slot e),
)

pub values_agree : (a b : MemberRow) → Decides (same_value (member_of_row a) (member_of_row b)) (int_cmp (member_value a) (member_value b) ≡ Equal)
values_agree a b = Equal-is (int_cmp a.value b.value)

-- a mapped row
pub mapped_at : {X Y : Type 0} (f : X → Y) (xs : List X) (p : ℕ) (x : X) → slice_get xs p ≡ Some x → slice_get (map f xs) p ≡ Some (f x)
mapped_at f xs p x at = slice_get-map f xs p ∙ ap (option_map f) at

-- past the last item nothing is demanded
pub past_list : {X : Type 0} (xs : List X) (demands : ℕ → Option X → List Demand) → ((q : ℕ) → demands q None ≡ []) → (n : ℕ) → length xs ≤ n → ((q : ℕ) → q < n → first_code (demands q (slice_get xs q)) ≡ None) → (q : ℕ) → first_code (demands q (slice_get xs q)) ≡ None
past_list xs demands none n le h q = elim (le_or_lt (length xs) q) [
  | inl past ↦ ap (λ x. first_code (demands q x)) (slice_get_past xs q past) ∙ ap first_code (none q)
  | inr lt ↦ h q (omega arith)
]

-- Structs.
module _ (rows : Rows) (bytesize : ℤ) (fields : List FieldRow) where
  not_again_struct : (q : ℕ) → first_code (struct_asked rows bytesize (map field_of fields) q) ≡ None → IsAgain name_cmp (map field_name fields) q → ⊥
  not_again_struct q clear a = never_again name_cmp field_name field_of same_field_name field_names_agree fields q a
      (λ row at. clear_line (struct_field_demands rows bytesize (field_of row) _) (rw (mapped_at field_of fields q row at) at clear) 0 _ refl)

  -- what the walk computes at p is what is demanded there
  pub struct_code : (p : ℕ) (row : FieldRow) (first : Option ℕ) (named : Bool) → slice_get fields p ≡ Some row → IsFirstAgain name_cmp (map field_name fields) first
      → ((q : ℕ) → q < p → first_code (struct_asked rows bytesize (map field_of fields) q) ≡ None) → named ≡ is_at first p
      → first_code (struct_field_demands rows bytesize (field_of row) named) ≡ first_code (struct_asked rows bytesize (map field_of fields) p)
  struct_code p row first named at h clear n =
      rw (mapped_at field_of fields p row at)
      (ap (λ b. first_code (struct_field_demands rows bytesize (field_of row) b)) (n ∙ is_at_test name_cmp field_name field_of same_field_name field_names_agree fields p row at first h (λ q lt. not_again_struct q (clear q lt))))

-- Tables.
module _ (rows : Rows) (fields : List FieldRow) where
  not_named_table : (q : ℕ) → first_code (table_asked rows (map field_of fields) q) ≡ None → IsAgain name_cmp (map field_name fields) q → ⊥
  not_named_table q clear a = never_again name_cmp field_name field_of same_field_name field_names_agree fields q a (λ row at. clear_line (table_field_demands rows (field_of row) _ _ _ _) (rw (mapped_at field_of fields q row at) at clear) 0 _ refl)

  not_taken_table : (q : ℕ) → first_code (table_asked rows (map field_of fields) q) ≡ None → IsAgain nat_cmp (map field_slot fields) q → ⊥
  not_taken_table q clear a = never_again nat_cmp field_slot field_of same_slot slots_agree fields q a
      (λ row at. let line = clear_line (table_field_demands rows (field_of row) _ _ _ _) (rw (mapped_at field_of fields q row at) at clear) 1 _ refl in grind (arith, line))

  -- what the walk computes at p is what is demanded there
  pub table_code : (p : ℕ) (row : FieldRow) (name_again slot_again : Option ℕ) (named taken byte vector : Bool) → slice_get fields p ≡ Some row
      → IsFirstAgain name_cmp (map field_name fields) name_again → IsFirstAgain nat_cmp (map field_slot fields) slot_again
      → ((q : ℕ) → q < p → first_code (table_asked rows (map field_of fields) q) ≡ None)
      → named ≡ is_at name_again p → taken ≡ is_at slot_again p → byte ≡ stands_below ForUnion (map field_of fields) row.slot → vector ≡ stands_below ForUnions (map field_of fields) row.slot
      → first_code (table_field_demands rows (field_of row) named taken byte vector) ≡ first_code (table_asked rows (map field_of fields) p)
  table_code p row name_again slot_again named taken byte vector at h k clear n t b v =
      let same_named = n ∙ is_at_test name_cmp field_name field_of same_field_name field_names_agree fields p row at name_again h (λ q lt. not_named_table q (clear q lt)) in
      let same_taken = t ∙ is_at_test nat_cmp field_slot field_of same_slot slots_agree fields p row at slot_again k (λ q lt. not_taken_table q (clear q lt)) in
      rw (mapped_at field_of fields p row at) (λ i. first_code (table_field_demands rows (field_of row) (same_named i) (same_taken i) (b i) (v i)))

  -- past the last field nothing is demanded
  pub past_table : (n : ℕ) → length fields ≤ n → ((q : ℕ) → q < n → first_code (table_asked rows (map field_of fields) q) ≡ None) → (q : ℕ) → first_code (table_asked rows (map field_of fields) q) ≡ None
  past_table n le h q = past_list (map field_of fields) (demands_of_table_field rows (map field_of fields)) (λ q. refl) n (rw length-map le) h q
