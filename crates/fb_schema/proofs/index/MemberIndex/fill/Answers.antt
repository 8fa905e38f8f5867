use Rattle.std.proofs.Common.{◌≤◌, length, take_all, subst, arith}
use Rattle.fb_schema.specs.{FlatRows.borrowed_rows, Index.IsMemberIndex}
use Rattle.fb_schema.proofs.index.MemberIndex.fill.Goals as goal

pub returns : goal.returns
returns g c =
    let past : length c.args.rows.now.enums.now ≤ c.loop-n.n = omega arith in
    subst (λ es. IsMemberIndex (borrowed_rows c.args.rows.now) c.args.rows.now.members.now es c.loop-n.self) (take_all c.loop-n.n c.args.rows.now.enums.now past) c.loop-n.invariant
