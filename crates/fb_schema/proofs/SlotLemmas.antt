-- The slots of a table's type fields are gathered row by row.
use Rattle.std.proofs.Common.{arith, ◌≡◌, ℕ, ◌+◌, ◌<◌, ◌==◌, Bool, true, false, not, ◌&&◌, ◌||◌, List, [], ◌∷◌, ◌++◌, length, get_or, take, map, sym, ◌∙◌, ap}
use Rattle.std.specs.List.{list_any}
use Rattle.std.proofs.lemmas.{List.map-append, List.Folds.list_any-append, Grind.take_at_read}
use Rattle.fb_schema.specs.declared.{rows.FieldRow.FieldRow, kinds.TypeField.TypeField}
use Rattle.fb_schema.specs.{Rows.Field, Rows.field_of, Kinds.shape_of, Demands.is_type_field, Demands.stands_below}

-- what the test of one row more adds
wanted_test : (deprecated is here b : Bool) → deprecated ≡ false → is ≡ true → (b || (((not deprecated && here) && is) || false)) ≡ (b || (here || false))
wanted_test deprecated is here b e f = grind (arith, e, f)

left_dead : (is here b : Bool) → (b || (((not true && here) && is) || false)) ≡ b
left_dead is here b = grind arith

left_other : (deprecated is here b : Bool) → is ≡ false → (b || (((not deprecated && here) && is) || false)) ≡ b
left_other deprecated is here b e = grind (arith, e)

module _ (wanted : TypeField) (rows : List FieldRow) (i : ℕ) (d : FieldRow) (slots : List ℕ) (lt : i < length rows) (before : (slot : ℕ) → list_any (λ s. s + 2 == slot) slots ≡ stands_below wanted (map field_of (take i rows)) slot) where
  abbrev pub row : FieldRow
  row = get_or rows i d

  -- the test of one row more
  more : (slot : ℕ) → stands_below wanted (map field_of (take (i + 1) rows)) slot
      ≡ (list_any (λ s. s + 2 == slot) slots || (((not row.deprecated && (row.slot + 2 == slot)) && is_type_field wanted (shape_of row.ty)) || false))
  more slot =
      let test = λ (f : Field). not f.deprecated && (f.slot + 2 == slot) && is_type_field wanted (shape_of f.ty) in
      ap (λ fs. list_any test (map field_of fs)) (take_at_read rows i d lt).1
      ∙ ap (list_any test) (map-append field_of (take i rows) (row ∷ []))
      ∙ list_any-append test (map field_of (take i rows)) (field_of row ∷ [])
      ∙ ap (λ b. b || list_any test (field_of row ∷ [])) (sym (before slot))

  pub slot_added : (new : List ℕ) → new ≡ slots ++ row.slot ∷ [] → row.deprecated ≡ false → is_type_field wanted (shape_of row.ty) ≡ true → (slot : ℕ) → list_any (λ s. s + 2 == slot) new ≡ stands_below wanted (map field_of (take (i + 1) rows)) slot
  slot_added new e live is slot =
      ap (list_any (λ s. s + 2 == slot)) e ∙ list_any-append (λ s. s + 2 == slot) slots (row.slot ∷ [])
      ∙ sym (wanted_test row.deprecated (is_type_field wanted (shape_of row.ty)) (row.slot + 2 == slot) (list_any (λ s. s + 2 == slot) slots) live is) ∙ sym (more slot)

  pub slot_dead : (new : List ℕ) → new ≡ slots → row.deprecated ≡ true → (slot : ℕ) → list_any (λ s. s + 2 == slot) new ≡ stands_below wanted (map field_of (take (i + 1) rows)) slot
  slot_dead new e dead slot =
      let is = is_type_field wanted (shape_of row.ty) in
      let b = list_any (λ s. s + 2 == slot) slots in
      ap (list_any (λ s. s + 2 == slot)) e ∙ sym (ap (λ x. b || (((not x && (row.slot + 2 == slot)) && is) || false)) dead ∙ left_dead is (row.slot + 2 == slot) b) ∙ sym (more slot)

  pub slot_other : (new : List ℕ) → new ≡ slots → is_type_field wanted (shape_of row.ty) ≡ false → (slot : ℕ) → list_any (λ s. s + 2 == slot) new ≡ stands_below wanted (map field_of (take (i + 1) rows)) slot
  slot_other new e other slot =
      ap (list_any (λ s. s + 2 == slot)) e ∙ sym (left_other row.deprecated (is_type_field wanted (shape_of row.ty)) (row.slot + 2 == slot) (list_any (λ s. s + 2 == slot) slots) other) ∙ sym (more slot)
