use Rattle.std.proofs.Common.{sym}
use Rattle.fb_access.proofs.Tested.{changed, member_fails}
use Rattle.fb_access.proofs.tested_next.spot_of_member.Goals as goal

pub returns-in_err-spot_at_member-in-Some : goal.returns-in_err-spot_at_member-in-Some
returns-in_err-spot_at_member-in-Some c =
    changed _ _ _ _ c.from_residual.ensures.1 (member_fails _ _ _ _ _ _ _ _ c.in-AtUnion.is c.if-type_byte-value.true (sym (rw c.in-Some.is at c.member_of.ensures)) c.in_err-spot_at_member-in-Some.ensures)
