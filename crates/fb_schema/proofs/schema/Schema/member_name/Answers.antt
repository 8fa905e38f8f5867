use Rattle.std.proofs.Common.{◌≡◌, ◌<◌, pos, List, Some, find, map, slice_get, IsTrue, true, refl, sym, ap, subst, ◌∙◌, arith, option_map, int_eq}
use Rattle.fb_schema.specs.{declared.flat.EnumPart.EnumPart, declared.rows.MemberRow.MemberRow, Members.member_name, FlatRows.flat_rows, Rows.Rows, Rows.Member, Rows.is_union}
use Rattle.fb_schema.specs.Rows.{member_of_row}
use Rattle.fb_schema.proofs.{NamedValues.member_name_is, NamedValues.no_name_of_zero, NamedValues.no_name_of_other, UnionLemmas.union_at}
use Rattle.fb_schema.proofs.schema.Schema.member_name.Goals as goal
use Rattle.fb_schema.proofs.schema.Schema.member_name.Goals.{After-self, then-value-eq0-via-then-value-eq0, then-value-eq0-via-else-value-eq0+then-not-is_union}

pub returns-then-value-eq0 : goal.returns-then-value-eq0
returns-then-value-eq0 g c = elim c.then-value-eq0.branch [
  | then-value-eq0-via-then-value-eq0 w ↦ sym (ap (member_name c.args.self.now c.args.e) w.if-value-eq0.true ∙ no_name_of_zero c.args.self.now c.args.e)
  | then-value-eq0-via-else-value-eq0+then-not-is_union w ↦ sym (no_name_of_other c.args.self.now c.args.e c.args.value (sym w.is_union.ensures ∙ w.if-not-is_union.true))
]

-- the union's row
union_row : (g : _) (c : After-self g) → (row : EnumPart) × (slice_get c.self.inside.rows.enums.items c.args.e ≡ Some row) × (row.is_union ≡ true)
union_row g c = union_at c.self.inside.rows.members.items c.self.inside.rows.enums.items c.args.e (subst (λ (r : Rows). IsTrue (is_union r c.args.e)) (sym c.self.view_is) (sym c.is_union.ensures ∙ c.if-not-is_union.false))

pub returns : goal.returns
returns g c =
    let d = (goal.at.returns g c).After-self in
    let flat = c.self.inside.rows in
    let u = union_row g d in
    let above : 0 < c.args.value = omega arith in
    let below : c.args.value < 256 = omega arith in
    c.name_of.ensures
    ∙ ap (λ (ms : List MemberRow). option_map (λ (m : Member). m.name) (find (λ m. int_eq m.value (pos c.args.value)) (map member_of_row ms))) (c.members_at.ensures u.0 u.1)
    ∙ sym (member_name_is (flat_rows flat) flat.members.items flat.enums.items refl c.args.e u.0 u.1 u.2 c.args.value above below)
    ∙ ap (λ (r : Rows). member_name r c.args.e c.args.value) c.self.view_is
