use Rattle.std.proofs.Common.{IfErr}
use Rattle.fb_verify.proofs.Walking.{err_exit}
use Rattle.fb_bfbs.specs.Marks.{IsMarksFault}
use Rattle.fb_bfbs.proofs.Outcomes.{no_marks, read_marks, too_many}
use Rattle.fb_bfbs.proofs.marks.marks_by.Goals as goal

pub returns-in_err-verified-clause-no : goal.returns-in_err-verified-clause-no
returns-in_err-verified-clause-no c =
    err_exit c.from_residual.result _ (λ r. IfErr r (IsMarksFault c.args.meter.bytes c.args.limits)) c.from_residual.ensures.1 (no_marks _ _ _ c.in_err-verified.ensures.no)

pub returns-in-Some-clause-yes : goal.returns-in-Some-clause-yes
returns-in-Some-clause-yes c = read_marks _ _ _ c.in_ok-verified.ensures.yes _ _ c.len.ensures.len c.paying-paying.ensures _ (rw c.in-Some.is at c.in_ok-marks.ensures)

pub returns-in-None-clause-no : goal.returns-in-None-clause-no
returns-in-None-clause-no c = too_many _ _ _ c.in_ok-verified.ensures.yes _ _ c.len.ensures.len c.paying-paying.ensures (rw c.in-None.is at c.in_ok-marks.ensures)
