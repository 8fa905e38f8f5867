use Rattle.std.proofs.Common.{◌≡◌, ◌<◌, ℕ, Option, Some, None, List, map, length, slice_get, get_or, find, filter, IsTrue, true, false, unsigned_abs, refl, sym, ap, subst, ◌∙◌, arith, to_z, of_z, w64, option_map, bytes_eq, Equal}
use Rattle.std.proofs.lemmas.{Int.to_z-of_z, List.length-map, List.get_or-map}
use Rattle.fb_schema.specs.{declared.flat.EnumPart.EnumPart, declared.rows.MemberRow.MemberRow, Demands.first_code, Demands.members_asked, Flat.part, Index.kept_members}
use Rattle.fb_schema.specs.{Members.member_named, Members.is_member_value, FlatRows.flat_rows, FlatRows.enum_in, Sorting.IsOrderOf, Sorting.IsPlaceOf, Sorting.member_cmp}
use Rattle.fb_schema.specs.{Sorting.member_key, Rows.Rows, Rows.Member, Rows.is_union, Rows.member_of_row}
use Rattle.fb_schema.proofs.{Blank.blank_member, UnionLemmas.union_at, LookLemmas.union_within, UnionLemmas.members_clear, MemberNames.member_named_is, MemberNames.real_at}
use Rattle.fb_schema.proofs.MemberNames.{small_value, fits_small, name_place}
use Rattle.fb_schema.proofs.schema.Schema.member_named.Goals as goal
use Rattle.fb_schema.proofs.{schema.Schema.member_named.Goals.After-place_of, WalkLemmas.mapped_at}
use Rattle.std.proofs.lemmas.Option.{slice_get-get_or}

union_row : (g : _) (c : After-place_of g) → (row : EnumPart) × (slice_get c.self.inside.rows.enums.items c.args.e ≡ Some row) × (row.is_union ≡ true)
union_row g c = union_at c.self.inside.rows.members.items c.self.inside.rows.enums.items c.args.e (subst (λ (r : Rows). IsTrue (is_union r c.args.e)) (sym c.self.view_is) c.requires)

abbrev rows : (g : _) (c : After-place_of g) → Rows
rows g c = flat_rows c.self.inside.rows

-- the members of the union
abbrev listed : (g : _) (c : After-place_of g) → List MemberRow
listed g c = part c.self.inside.rows.members.items (union_row g c).0.members

at_place : (g : _) (c : After-place_of g) (place : Option ℕ) → c.place_of.result ≡ place → IsPlaceOf member_cmp (map member_key (listed g c)) (false, c.args.name) place
at_place g c place is =
    let row = (union_row g c).0 in
    let list = part c.self.inside.rows.members.items row.members in
    subst (IsPlaceOf member_cmp (map member_key list) (false, c.args.name)) is (c.place_of.ensures (map member_key list) (subst (λ b. IsOrderOf member_cmp (map member_key (kept_members b list)) c.get-names.result.now) (union_row g c).2 (c.self.invariant.kinds.names.at c.args.e row c.get-names.result.now (union_row g c).1 c.get-names.ensures)))

clear : (g : _) (c : After-place_of g) (q : ℕ) → first_code (members_asked (rows g c) (map member_of_row (listed g c)) q) ≡ None
clear g c = members_clear (rows g c) c.self.inside.rows.members.items c.self.inside.rows.enums.items refl c.self.invariant.legal c.args.e (union_row g c).0 (union_row g c).1 (union_row g c).2

read : (g : _) (c : After-place_of g) → member_named (rows g c) c.args.e c.args.name.now ≡ option_map (λ m. unsigned_abs m.value) (find (λ m. bytes_eq m.name c.args.name.now) (filter (λ m. is_member_value m.value) (map member_of_row (listed g c))))
read g c = member_named_is (rows g c) c.self.inside.rows.members.items c.self.inside.rows.enums.items refl c.args.e (union_row g c).0 (union_row g c).1 (union_row g c).2 c.args.name.now

seen : (g : _) (c : After-place_of g) → member_named (rows g c) c.args.e c.args.name.now ≡ member_named c.args.self.now c.args.e c.args.name.now
seen g c = ap (λ r. member_named r c.args.e c.args.name.now) c.self.view_is

pub returns-in-None : goal.returns-in-None
returns-in-None g c =
    let d = (goal.at.returns-in-None g c).After-place_of in
    sym (ap (option_map (λ (m : Member). unsigned_abs m.value)) (name_place (rows g d) (listed g d) (clear g d) c.args.name None (at_place g d None c.in-None.is))) ∙ sym (read g d) ∙ seen g d

-- the member at the place of the name
found : (g : _) (c : After-place_of g) (place : ℕ) → c.place_of.result ≡ Some place → (place < length (listed g c)) × (member_cmp (member_key (get_or (listed g c) place blank_member)) (false, c.args.name) ≡ Equal)
found g c place is =
    let members = listed g c in
    let h = at_place g c (Some place) is in
    let lt : place < length members = rw length-map at h.0 in
    (lt, ap (λ z. member_cmp z (false, c.args.name)) (sym (get_or-map member_key members place blank_member (member_key blank_member) lt)) ∙ h.1 (member_key blank_member))

pub bounds-members_at-place : goal.bounds-members_at-place
bounds-members_at-place g c =
    let d = (goal.at.bounds-members_at-place g c).After-place_of in
    let lt = (found g d c.in-Some.place c.in-Some.is).0 in
    let same = ap length (c.members_at.ensures (union_row g d).0 (union_row g d).1) in
    omega arith

-- the member that was read
read_value : (g : _) (c : After-place_of g) (place : ℕ) (is : c.place_of.result ≡ Some place) (lent : List MemberRow) (n : ℕ) → lent ≡ listed g c → n ≡ unsigned_abs (to_z w64 (of_z w64 (get_or lent place blank_member).value))
    → (n < 256) × (Some n ≡ member_named c.args.self.now c.args.e c.args.name.now)
read_value g c place is lent n e k =
    let members = listed g c in
    let h = found g c place is in
    let x = get_or members place blank_member in
    let real = real_at (rows g c) members (clear g c) c.args.name place blank_member h.0 h.1 in
    let value : n ≡ unsigned_abs x.value = k ∙ ap (λ ms. unsigned_abs (to_z w64 (of_z w64 (get_or ms place blank_member).value))) e ∙ ap unsigned_abs (to_z-of_z w64 x.value (fits_small x.value real)) in
    let small = small_value x.value real in (
      omega arith,
      ap Some value ∙ sym (ap (option_map (λ (m : Member). unsigned_abs m.value)) (name_place (rows g c) members (clear g c) c.args.name (Some place) (at_place g c (Some place) is) ∙ mapped_at member_of_row members place x (slice_get-get_or members place blank_member h.0))) ∙ sym (read g c) ∙ seen g c,
    )

pub overflow_cast-result : goal.overflow_cast-result
overflow_cast-result g c =
    let d = (goal.at.overflow_cast-result g c).After-place_of in
    let small = (read_value g d c.in-Some.place c.in-Some.is _ c.unsigned_abs.result (c.members_at.ensures (union_row g d).0 (union_row g d).1) c.unsigned_abs.ensures.value).0 in
    record { fits = omega arith }

pub returns-in-Some : goal.returns-in-Some
returns-in-Some g c =
    let d = (goal.at.returns-in-Some g c).After-place_of in
    (read_value g d c.in-Some.place c.in-Some.is _ c.unsigned_abs.result (c.members_at.ensures (union_row g d).0 (union_row g d).1) c.unsigned_abs.ensures.value).1

-- the union is one of the enums
pub get-names-requires : goal.get-names-requires
get-names-requires g c =
    let s = c.self.inside in
    let lt = union_within (enum_in s.rows.members.items) s.rows.enums.items (flat_rows s.rows) c.args.self.now c.args.e refl c.self.view_is c.requires in
    omega (arith, lt, c.self.invariant.kinds.names.long)

pub members_at-requires-clause-here : goal.members_at-requires-clause-here
members_at-requires-clause-here g c =
    let s = c.self.inside in
    union_within (enum_in s.rows.members.items) s.rows.enums.items (flat_rows s.rows) c.args.self.now c.args.e refl c.self.view_is c.requires
