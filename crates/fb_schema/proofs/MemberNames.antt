-- The members of a union of legal rows are found by name.
use Rattle.std.proofs.Common.{◌≡◌, ℕ, zero, suc, ◌<◌, ℤ, pos, negsuc, Bool, true, false, ◌&&◌, ◌||◌, int_lt, unsigned_abs, List, length, get_or, slice_get, filter, map, Some, None, refl, ◌∙◌, ap, arith, find, Decides, FitsSigned, w64, Bor, option_map, bytes_eq, Equal, Option, option_and_then}
use Rattle.std.proofs.lemmas.{Bool.Decides.nat_tests, Cmp.on_total, Cmp.then_total, Option.slice_get-get_or}
use Rattle.std.specs.{Cmp.IsTotalOrder, Cmp.bool_cmp_total, Ordering.int_eq, Ordering.bool_cmp, Ordering.is_eq}
use Rattle.fb_schema.specs.{declared.flat.EnumPart.EnumPart, declared.rows.MemberRow.MemberRow, Demands.first_code, Demands.members_asked, Demands.member_demands}
use Rattle.fb_schema.specs.{Sorting.IsPlaceOf, Members.is_member_value, Members.member_named, Sorting.name_cmp, Sorting.member_cmp, Sorting.member_key, Rows.Rows, Rows.Member}
use Rattle.fb_schema.specs.{Rows.member_of_row, Flat.part, FlatRows.enum_in}
use Rattle.fb_schema.proofs.{DemandLaws.clear_line, FindLemmas.find_filter, MemberLemmas.name_not_again, MemberLemmas.clear_demands, MemberLemmas.both_equal}
use Rattle.fb_schema.proofs.{PlaceLemmas.place_find, Numbers.both_true, UnionLemmas.members_read, WalkLemmas.names_agree, WalkLemmas.names_total}

pub members_total : IsTotalOrder member_cmp
members_total = then_total (on_total (λ (m : Bool × Bor (List ℕ)). m.0) bool_cmp_total) (on_total (λ (m : Bool × Bor (List ℕ)). m.1) names_total)

-- a value of legal rows is a member's, unless it is 0
real_is : (z : ℤ) (taken : Bool) → (int_lt z (pos 0) || int_lt (pos 255) z || taken) ≡ false → is_member_value z ≡ is_eq (bool_cmp (int_eq z (pos 0)) false)
real_is (pos zero) taken line = refl
real_is (pos (suc n)) taken line = grind (arith, nat_tests, line)
real_is (negsuc n) taken line = absurd (let w : true ≡ false = line in cc)

module _ (rows : Rows) (members : List MemberRow) (clear : (q : ℕ) → first_code (members_asked rows (map member_of_row members) q) ≡ None) (name : Bor (List ℕ)) where
  agrees : (k : ℕ) (x : MemberRow) → slice_get members k ≡ Some x → Decides (is_member_value x.value && bytes_eq x.name.now name.now) (member_cmp (member_key x) (false, name) ≡ Equal)
  agrees k x at =
      let real = real_is x.value _ (clear_line (member_demands rows (member_of_row x) _ _) (clear_demands rows members k x at (clear k)) 0 _ refl) in
      rw real (both_equal (bool_cmp (int_eq x.value (pos 0)) false) (name_cmp x.name name) (bytes_eq x.name.now name.now) (names_agree x.name.now name.now))

  pub real_at : (k : ℕ) (x : MemberRow) → k < length members → member_cmp (member_key (get_or members k x)) (false, name) ≡ Equal → is_member_value (get_or members k x).value ≡ true
  real_at k x lt e = (both_true (is_member_value (get_or members k x).value) _ ((agrees k (get_or members k x) (slice_get-get_or members k x lt)).1 e)).0

  -- the member at the place of a name is the one that is found
  pub name_place : (place : Option ℕ) → IsPlaceOf member_cmp (map member_key members) (false, name) place
      → find (λ m. bytes_eq m.name name.now) (filter (λ m. is_member_value m.value) (map member_of_row members)) ≡ option_and_then (slice_get (map member_of_row members)) place
  name_place place h =
      find_filter (λ m. bytes_eq m.name name.now) (λ m. is_member_value m.value) (map member_of_row members)
      ∙ place_find member_cmp members_total member_key member_of_row members (false, name) (λ m. is_member_value m.value && bytes_eq m.name name.now) agrees (λ q. name_not_again rows members q (clear q)) place h

-- what is looked up of a union, over its row
pub member_named_is : (rows : Rows) (all : List MemberRow) (enums : List EnumPart) → rows.enums ≡ map (enum_in all) enums → (n : ℕ) (row : EnumPart) → slice_get enums n ≡ Some row → row.is_union ≡ true → (name : List ℕ)
    → member_named rows n name ≡ option_map (λ m. unsigned_abs m.value) (find (λ m. bytes_eq m.name name) (filter (λ m. is_member_value m.value) (map member_of_row (part all row.members))))
unfolding member_named
member_named_is rows all enums same n row at union name = ap (λ ms. option_map (λ (m : Member). unsigned_abs m.value) (find (λ m. bytes_eq m.name name) ms)) (members_read rows all enums same n row at union)

-- a member's value is a byte
pub small_value : (z : ℤ) → is_member_value z ≡ true → unsigned_abs z < 256
small_value (pos n) h = grind (arith, nat_tests, h)
small_value (negsuc n) h = absurd (let w : false ≡ true = h in cc)

pub fits_small : (z : ℤ) → is_member_value z ≡ true → FitsSigned w64 z
fits_small (pos n) h = let small : n < 256 = small_value (pos n) h in record { sfits = omega arith }
fits_small (negsuc n) h = absurd (let w : false ≡ true = h in cc)
