use Rattle.std.proofs.Common.{◌<◌, pos, List, Some, map, length, get_or, FitsSigned, w64, sym, ap, subst, ◌∙◌, arith, rules, option_and_then, int_cmp, None}
use Rattle.std.proofs.lemmas.{Int.to_z-of_z, Option.get_or_from_slice_get, List.length-map, List.get_or-map}
use Rattle.fb_schema.specs.{declared.rows.MemberRow.MemberRow, Kinds.kind_of, Sorting.IsPlaceOf, Sorting.member_value, Rows.Rows, Rows.Member, Rows.member_of_row}
use Rattle.fb_schema.specs.Targets.{kind_among, AreSorted}
use Rattle.fb_schema.proofs.{Blank.blank_member, NextRequired.item_lent, UnionLemmas.none_for_zero, UnionLemmas.value_place}
use Rattle.fb_schema.proofs.targets.kind_at.Goals as goal
use Rattle.fb_schema.proofs.{targets.kind_at.Goals.After-place_of, WalkLemmas.mapped_at}
use Rattle.std.proofs.lemmas.Option.{slice_get-get_or}

pub returns-then-value-eq0 : goal.returns-then-value-eq0
returns-then-value-eq0 c = λ rows members h. sym (ap (kind_among rows (map member_of_row members)) c.if-value-eq0.true ∙ ap (option_and_then (λ (m : Member). kind_of rows m.ty)) (none_for_zero (map member_of_row members)))

-- where the value stands among the members
placed : (c : After-place_of) (rows : Rows) (members : List MemberRow) → AreSorted rows members c.args.values.now c.args.kinds.now → IsPlaceOf int_cmp (map member_value members) (pos c.args.value) c.place_of.result
placed c rows members h =
    let fits : FitsSigned w64 c.from.result = search rules in
    subst (λ v. IsPlaceOf int_cmp (map member_value members) v c.place_of.result) (to_z-of_z w64 c.from.result fits ∙ c.from.ensures) (c.place_of.ensures (map member_value members) h.rise)

pub returns-in-Some-get : goal.returns-in-Some-get
returns-in-Some-get c = λ rows members h.
    let place = c.in-Some.place in
    let p : IsPlaceOf int_cmp (map member_value members) (pos c.args.value) (Some place) = rw c.in-Some.is at (placed (goal.at.returns-in-Some-get c).After-place_of rows members h) in
    let lt : place < length members = rw length-map at p.0 in
    let real : 0 < c.args.value = omega arith in
    let small : c.args.value < 256 = omega arith in
    sym (get_or_from_slice_get c.args.kinds.now place c.in-Some-get.kind.now _ (item_lent _ _ _ _ c.get.ensures.lookup c.in-Some-get.is))
    ∙ ap (λ ks. get_or ks place c.in-Some-get.kind.now) h.are
    ∙ get_or-map (λ m. kind_of rows (member_of_row m).ty) members place blank_member c.in-Some-get.kind.now lt
    ∙ sym (ap (option_and_then (λ (m : Member). kind_of rows m.ty)) (value_place rows members h.clear c.args.value real small (Some place) p ∙ mapped_at member_of_row members place _ (slice_get-get_or members place blank_member lt)))

pub returns-in-None : goal.returns-in-None
returns-in-None c = λ rows members h.
    let p = rw c.in-None.is at (placed (goal.at.returns-in-None c).After-place_of rows members h) in
    sym (ap (option_and_then (λ (m : Member). kind_of rows m.ty)) (value_place rows members h.clear c.args.value (omega arith) (omega arith) None p))
