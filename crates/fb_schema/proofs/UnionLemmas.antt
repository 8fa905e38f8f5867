-- The members of a union of legal rows.
use Rattle.std.proofs.Common.{◌≡◌, ℕ, zero, suc, ◌<◌, ℤ, pos, Bool, true, false, ◌&&◌, List, [], ◌∷◌, slice_get, filter, map, Option, Some, None, IsTrue, refl, sym, ◌∙◌, ap, arith, find, if◌then◌else◌, int_cmp, int_eq, option_and_then}
use Rattle.fb_schema.proofs.{Search.not_true, FindLemmas.find_filter, LegalLemmas.legal_clear, MemberLemmas.value_not_again, WalkLemmas.mapped_at, PlaceLemmas.place_find}
use Rattle.std.proofs.lemmas.{Bool.Decides.nat_tests, Cmp.int_cmp_total}
use Rattle.std.specs.Cmp.{Equal-is, signed_Decides}
use Rattle.fb_schema.specs.{declared.flat.EnumPart.EnumPart, declared.rows.MemberRow.MemberRow, Demands.IsLegal, Demands.first_code, Demands.members_asked, FlatRows.enum_in}
use Rattle.fb_schema.specs.{Sorting.IsPlaceOf, Kinds.kind_of, Members.is_member_value, Members.member_of, Members.members_in, Sorting.member_value, Flat.part, Rows.Rows}
use Rattle.fb_schema.specs.Rows.{Member, Enum, member_of_row, is_some_union}

-- a union's row
pub union_at : (all : List MemberRow) (enums : List EnumPart) (n : ℕ) → IsTrue (is_some_union (slice_get (map (enum_in all) enums) n)) → (row : EnumPart) × (slice_get enums n ≡ Some row) × (row.is_union ≡ true)
union_at all [] n h = absurd (let w : false ≡ true = h in cc)
union_at all (e ∷ es) zero h = (e, refl, h)
union_at all (e ∷ es) (suc n) h = union_at all es n h

-- a member's value is from 1 to 255
pub real_value : (v : ℕ) → 0 < v → v < 256 → is_member_value (pos v) ≡ true
real_value v a b = grind (arith, nat_tests)

pub real_not_zero : (z : ℤ) → is_member_value z ≡ true → int_eq z (pos 0) ≡ false
real_not_zero z h = not_true (int_eq z (pos 0)) (λ e. let w : true ≡ false = sym h ∙ ap is_member_value ((signed_Decides z (pos 0)).0 e) in cc)

-- no member of a union of legal rows breaks a demand
pub members_clear : (rows : Rows) (all : List MemberRow) (enums : List EnumPart) → rows.enums ≡ map (enum_in all) enums → IsLegal rows → (n : ℕ) (row : EnumPart) → slice_get enums n ≡ Some row → row.is_union ≡ true → (q : ℕ) → first_code (members_asked rows (map member_of_row (part all row.members)) q) ≡ None
members_clear rows all enums same legal n row at union q =
    let here : slice_get rows.enums n ≡ Some (enum_in all row) = ap (λ es. slice_get es n) same ∙ mapped_at (enum_in all) enums n row at in
    rw (here, union) at (legal_clear rows legal 1 n (suc q))

-- the members of a union are those of its row
pub members_read : (rows : Rows) (all : List MemberRow) (enums : List EnumPart) → rows.enums ≡ map (enum_in all) enums → (n : ℕ) (row : EnumPart) → slice_get enums n ≡ Some row → row.is_union ≡ true → members_in (slice_get rows.enums n) ≡ filter (λ m. is_member_value m.value) (map member_of_row (part all row.members))
members_read rows all enums same n row at union =
    ap members_in (ap (λ es. slice_get es n) same ∙ mapped_at (enum_in all) enums n row at)
    ∙ ap (λ b. if b then filter (λ (m : Member). is_member_value m.value) (map member_of_row (part all row.members)) else []) union

asked_once : (v : ℕ) → 0 < v → v < 256 → (z : ℤ) → (is_member_value z && int_eq z (pos v)) ≡ int_eq z (pos v)
asked_once v a b z = with_implied (is_member_value z) (int_eq z (pos v)) (λ e. ap is_member_value ((signed_Decides z (pos v)).0 e) ∙ real_value v a b) where
  with_implied : (p q : Bool) → (q ≡ true → p ≡ true) → (p && q) ≡ q
  with_implied p q h = grind (arith, h)

-- what has a value from 1 to 255 is a member
pub found_among : (v : ℕ) → 0 < v → v < 256 → (ms : List Member) → find (λ m. int_eq m.value (pos v)) (filter (λ m. is_member_value m.value) ms) ≡ find (λ m. int_eq m.value (pos v)) ms
found_among v a b ms = find_filter (λ m. int_eq m.value (pos v)) (λ m. is_member_value m.value) ms ∙ ap (λ t. find t ms) (λ i m. asked_once v a b m.value i)

-- the member at the place of a value is the one that is found
pub value_place : (rows : Rows) (members : List MemberRow) → ((q : ℕ) → first_code (members_asked rows (map member_of_row members) q) ≡ None) → (v : ℕ) → 0 < v → v < 256 → (place : Option ℕ) → IsPlaceOf int_cmp (map member_value members) (pos v) place
    → find (λ m. int_eq m.value (pos v)) (filter (λ m. is_member_value m.value) (map member_of_row members)) ≡ option_and_then (slice_get (map member_of_row members)) place
value_place rows members clear v a b place h =
    found_among v a b (map member_of_row members)
    ∙ place_find int_cmp int_cmp_total member_value member_of_row members (pos v) (λ m. int_eq m.value (pos v)) (λ k x at. Equal-is (int_cmp x.value (pos v))) (λ q. value_not_again rows members q (clear q)) place h

-- what is looked up of a union, over its row
pub member_of_row_is : (rows : Rows) (all : List MemberRow) (enums : List EnumPart) → rows.enums ≡ map (enum_in all) enums → (n : ℕ) (row : EnumPart) → slice_get enums n ≡ Some row → row.is_union ≡ true → (v : ℕ)
    → member_of rows n v ≡ option_and_then (λ m. kind_of rows m.ty) (find (λ m. int_eq m.value (pos v)) (filter (λ m. is_member_value m.value) (map member_of_row (part all row.members))))
unfolding member_of
member_of_row_is rows all enums same n row at union v = ap (λ ms. option_and_then (λ (m : Member). kind_of rows m.ty) (find (λ m. int_eq m.value (pos v)) ms)) (members_read rows all enums same n row at union)

pub none_for_zero : (ms : List Member) → find (λ m. int_eq m.value (pos 0)) (filter (λ m. is_member_value m.value) ms) ≡ None
none_for_zero [] = refl
none_for_zero (m ∷ ms) = grind (arith, real_not_zero m.value, none_for_zero ms)

pub none_of : (e : Option Enum) → find (λ m. int_eq m.value (pos 0)) (members_in e) ≡ None
none_of None = refl
none_of (Some e) = grind (arith, none_for_zero e.members)
