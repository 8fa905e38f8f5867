use Rattle.std.proofs.Common.{IsTrue, refl, sym, ap, subst, ◌∙◌, [], arith}
use Rattle.fb_schema.specs.{Members.member_of, FlatRows.flat_rows, FlatRows.enum_in, Rows.Rows, Rows.is_union, Targets.target_of}
use Rattle.fb_schema.proofs.{UnionLemmas.union_at, UnionLemmas.member_of_row_is, LookLemmas.union_within}
use Rattle.fb_schema.proofs.schema.Schema.targets_of.Goals as goal
use Rattle.std.proofs.lemmas.Option.{get_or_from_slice_get}
use Rattle.fb_schema.specs.{Targets.target_at, FlatLists.lists_of}

pub returns : goal.returns
returns g c = λ value lt.
    let s = c.self.inside in
    let e = c.args.e in
    let rows = flat_rows s.rows in
    let u = union_at s.rows.members.items s.rows.enums.items e (subst (λ (r : Rows). IsTrue (is_union r e)) (sym c.self.view_is) c.requires) in
    let places = get_or_from_slice_get (lists_of s.index.members.places) e c.get.result.now [] c.get.ensures in
    let targets = get_or_from_slice_get (lists_of s.index.members.targets) e c.get-2.result.now [] c.get-2.ensures in
    sym (λ i. target_at (places i) (targets i) value) ∙ (c.self.invariant.kinds.targets.at e u.0 u.1 u.2).at value lt
    ∙ ap (target_of rows) (sym (member_of_row_is rows s.rows.members.items s.rows.enums.items refl e u.0 u.1 u.2 value))
    ∙ ap (λ r. target_of r (member_of r e value)) c.self.view_is

pub get-requires : goal.get-requires
get-requires g c =
    let s = c.self.inside in
    let lt = union_within (enum_in s.rows.members.items) s.rows.enums.items (flat_rows s.rows) c.args.self.now c.args.e refl c.self.view_is c.requires in
    omega (arith, lt, c.self.invariant.kinds.targets.long_places)

pub get-requires-2 : goal.get-requires-2
get-requires-2 g c =
    let s = c.self.inside in
    let lt = union_within (enum_in s.rows.members.items) s.rows.enums.items (flat_rows s.rows) c.args.self.now c.args.e refl c.self.view_is c.requires in
    omega (arith, lt, c.self.invariant.kinds.targets.long_targets)
