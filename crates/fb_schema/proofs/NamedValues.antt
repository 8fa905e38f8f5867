-- The name of a union's member is that of the row with its value.
use Rattle.std.proofs.Common.{◌≡◌, ℕ, ◌<◌, pos, true, false, List, [], map, slice_get, Option, Some, None, refl, ◌∙◌, ap, arith, find, option_map, int_eq}
use Rattle.fb_schema.specs.{declared.flat.EnumPart.EnumPart, declared.rows.MemberRow.MemberRow, Members.members_in, Members.member_name, Flat.part, FlatRows.enum_in, Rows.Rows}
use Rattle.fb_schema.specs.Rows.{Member, Enum, member_of_row, is_union, is_some_union}
use Rattle.fb_schema.proofs.UnionLemmas.{members_read, none_of, found_among}

-- the name that is looked up of a union, over its row
pub member_name_is : (rows : Rows) (all : List MemberRow) (enums : List EnumPart) → rows.enums ≡ map (enum_in all) enums → (n : ℕ) (row : EnumPart) → slice_get enums n ≡ Some row → row.is_union ≡ true → (v : ℕ) → 0 < v → v < 256
    → member_name rows n v ≡ option_map (λ m. m.name) (find (λ m. int_eq m.value (pos v)) (map member_of_row (part all row.members)))
unfolding member_name
member_name_is rows all enums same n row at union v a b =
    ap (λ ms. option_map (λ (m : Member). m.name) (find (λ m. int_eq m.value (pos v)) ms)) (members_read rows all enums same n row at union)
    ∙ ap (option_map (λ (m : Member). m.name)) (found_among v a b (map member_of_row (part all row.members)))

-- the value 0 has no name
pub no_name_of_zero : (rows : Rows) (n : ℕ) → member_name rows n 0 ≡ None
unfolding member_name
no_name_of_zero rows n = ap (option_map (λ (m : Member). m.name)) (none_of (slice_get rows.enums n))

-- what is no union has no members
pub no_members : (e : Option Enum) → is_some_union e ≡ false → members_in e ≡ []
no_members None h = refl
no_members (Some e) h = grind (arith, h)

-- so no value of it has a name
pub no_name_of_other : (rows : Rows) (n v : ℕ) → is_union rows n ≡ false → member_name rows n v ≡ None
unfolding member_name
no_name_of_other rows n v h = ap (λ ms. option_map (λ (m : Member). m.name) (find (λ m. int_eq m.value (pos v)) ms)) (no_members (slice_get rows.enums n) h)
