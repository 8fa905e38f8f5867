use Rattle.std.proofs.Common.{refl, IfErr}
use Rattle.fb_rules.specs.{Stops.Stops, Verdict.Reports}
use Rattle.fb_bfbs.specs.{Fixed.fixed, FileRows.IsVerifyFault, Loads.asked_within}
use Rattle.fb_verify.proofs.Walking.{err_exit}
use Rattle.fb_bfbs.proofs.loading.verified_by.Goals as goal

pub verify-requires-clause-table : goal.verify-requires-clause-table
unfolding fixed
verify-requires-clause-table c = rw c.requires.table refl

pub returns-in_err-verified-clause-no : goal.returns-in_err-verified-clause-no
returns-in_err-verified-clause-no c =
    let no : Stops (asked_within c.args.limits) c.args.meter.bytes c.in_err-verified.field-0.0 =
    rw (c.requires.table, c.published.ensures) at c.in_err-verified.ensures.no in
    err_exit c.from_residual-in_err-verified.result _ (λ r. IfErr r (IsVerifyFault c.args.meter.bytes c.args.limits)) c.from_residual-in_err-verified.ensures.1 (c.requires.short, no)

pub returns-clause-yes : goal.returns-clause-yes
returns-clause-yes c =
    let yes : Reports (asked_within c.args.limits) c.args.meter.bytes c.in_ok-verified.verified.report = rw (c.requires.table, c.published.ensures) at c.in_ok-verified.ensures.yes in
    record { short = c.requires.short; kept = rw (c.requires.table, c.published.ensures) at c.in_ok-verified.ensures.kept; yes = yes }
