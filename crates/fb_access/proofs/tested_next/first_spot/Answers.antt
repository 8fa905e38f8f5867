use Rattle.fb_access.proofs.Tested.{root_fails, untrue}
use Rattle.fb_access.proofs.tested_next.first_spot.Goals as goal

pub returns-else-is_tested : goal.returns-else-is_tested
returns-else-is_tested c =
    root_fails _ _ _ _ (rw (c.in_ok-target_of.ensures, c.base_of.ensures) at (untrue _ _ c.is_tested.ensures c.if-is_tested.false))
