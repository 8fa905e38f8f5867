use Rattle.std.proofs.Common.{get_or}
use Rattle.fb_schema.specs.{Kinds.kind_of, FlatRows.borrowed_rows, Rows.member_of_row}
use Rattle.fb_schema.proofs.{Blank.blank_member, Numbers.get_or_default, IndexLemmas.value_step}
use Rattle.fb_schema.proofs.indexing.member_kinds.Goals as goal

pub loop-member-preserved : goal.loop-member-preserved
loop-member-preserved g c =
    let members = c.args.members.now in
    let i = c.loop-member.member-index in
    let x = get_or members i blank_member in
    value_step (λ m. kind_of (borrowed_rows c.args.rows.now) (member_of_row m).ty) members i x c.loop-member.kinds.items _ c.kind_of.result c.loop-member-test.true (get_or_default members i blank_member x c.loop-member-test.true) c.loop-member.invariant c.in_ok-push.ensures.items c.kind_of.ensures
