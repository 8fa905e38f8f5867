use Rattle.std.proofs.Common.{sym}
use Rattle.fb_access.proofs.Tested.{step_fails, untrue}
use Rattle.fb_access.proofs.tested_next.step_from.Goals as goal

pub returns-else-is_tested : goal.returns-else-is_tested
returns-else-is_tested c =
    step_fails _ _ _ _ _ c.lawful.ensures.served (sym (rw c.in-Some.is at c.in_ok-to.ensures)) (untrue _ _ c.is_tested.ensures c.if-is_tested.false)
