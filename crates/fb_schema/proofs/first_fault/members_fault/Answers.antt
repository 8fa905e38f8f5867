use Rattle.std.proofs.Common.{◌≡◌, map, get_or, sym, ◌∙◌, below_more, refl}
use Rattle.std.proofs.lemmas.Option.{slice_get-get_or}
use Rattle.fb_schema.specs.{FlatRows.borrowed_rows, Rows.member_of_row, Demands.first_code, Demands.members_asked}
use Rattle.fb_schema.proofs.{Blank.blank_member, MemberLemmas.member_code}
use Rattle.fb_schema.proofs.first_fault.members_fault.Goals as goal
use Rattle.fb_schema.proofs.{first_fault.members_fault.Goals.After-member_fault, WalkLemmas.past_list}
use Rattle.fb_schema.specs.Demands.{demands_of_member}
use Rattle.std.proofs.lemmas.List.{length-map}

found : (g : _) (c : After-member_fault g) → c.member_fault.result ≡ first_code (members_asked (borrowed_rows c.args.rows.now) (map member_of_row c.args.members.now) c.loop-p.p)
found g c =
    let members = c.args.members.now in
    let p = c.loop-p.p in
    c.member_fault.ensures
    ∙ member_code (borrowed_rows c.args.rows.now) members p (get_or members p blank_member) c.in_ok-value_again.value_again c.in_ok-name_again.name_again c.is_at-taken.result c.is_named-named.result (slice_get-get_or members p blank_member c.loop-p-test.true) c.in_ok-value_again.ensures c.in_ok-name_again.ensures c.loop-p.invariant
    c.is_at-taken.ensures c.is_named-named.ensures

pub returns-in-Some : goal.returns-in-Some
returns-in-Some g c = (sym (found g (goal.at.returns-in-Some g c).After-member_fault) ∙ c.in-Some.is, c.loop-p.invariant)

pub returns : goal.returns
returns g c = past_list _ (demands_of_member (borrowed_rows c.args.rows.now) (map member_of_row c.args.members.now)) (λ q. refl) c.loop-p.p (rw length-map c.loop-p-test.false) c.loop-p.invariant

pub loop-p-preserved : goal.loop-p-preserved
loop-p-preserved g c = below_more _ _ c.loop-p.invariant (sym (found g (goal.at.loop-p-preserved g c).After-member_fault) ∙ c.in_default.is)
