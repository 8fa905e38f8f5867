use Rattle.std.proofs.Common.{map}
use Rattle.fb_bfbs.specs.Marks.{marked}
use Rattle.fbcheck_calls.proofs.MarkLemmas.{not_opened}
use Rattle.fbcheck_calls.proofs.basis.open.Goals as goal

pub returns-in-Err-plan_of : goal.returns-in-Err-plan_of
returns-in-Err-plan_of c =
    not_opened c.args.file.now c.args.options.now c.in-Ok.loaded (map marked c.in_ok-marks.marks.items) c.in-Err-plan_of.why c.in_ok-limits.ensures.0 (rw c.in_ok-limits.ensures.1 at c.in-Ok.ensures.yes)
    c.in_ok-marks.ensures.ok (rw c.deref.ensures.value at c.in-Err-plan_of.ensures.no)
