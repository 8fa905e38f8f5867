use Rattle.std.proofs.Common.{IfErr}
use Rattle.fb_verify.proofs.Walking.{err_exit}
use Rattle.fb_bfbs.specs.Loads.{IsLoadFault}
use Rattle.fb_bfbs.proofs.Outcomes.{no_load, read_file, too_much}
use Rattle.fb_bfbs.proofs.loading.read_by.Goals as goal

pub returns-in_err-verified-clause-no : goal.returns-in_err-verified-clause-no
returns-in_err-verified-clause-no c =
    err_exit c.from_residual.result _ (λ r. IfErr r (IsLoadFault c.args.meter.bytes c.args.limits)) c.from_residual.ensures.1 (no_load _ _ _ c.in_err-verified.ensures.no)

pub returns-in-Some-clause-yes : goal.returns-in-Some-clause-yes
returns-in-Some-clause-yes c = read_file _ _ _ c.in_ok-verified.ensures.yes _ _ c.len.ensures.len c.paying-paying.ensures _ (rw c.in-Some.is at c.in_ok-rows.ensures)

pub returns-in-None-clause-no : goal.returns-in-None-clause-no
returns-in-None-clause-no c = too_much _ _ _ c.in_ok-verified.ensures.yes _ _ c.len.ensures.len c.paying-paying.ensures (rw c.in-None.is at c.in_ok-rows.ensures)
