use Rattle.std.proofs.Common.{ap}
use Rattle.fb_verify.specs.Sealed.{Sealed}
use Rattle.fb_verify.proofs.Verdicts.{sealed_kept}
use Rattle.fb_verify.proofs.verified.verify.Goals as goal

pub of-requires-clause-reports : goal.of-requires-clause-reports
of-requires-clause-reports c = rw c.walk.ensures.bytes c.in-Ok.ensures.yes

pub returns-in-Ok : goal.returns-in-Ok
returns-in-Ok c =
    let e = c.in-Ok.ensures in
    let report = ap (λ (v : Sealed). v.report) c.of.ensures in
    record { yes = rw report e.yes; kept = sealed_kept c.of.ensures c.walk.ensures.bytes; none = tt; no = tt; price_of_yes = rw report (rw e.read at c.walk.ensures.price); price_of_no = tt }

pub returns-in-Err : goal.returns-in-Err
returns-in-Err c =
    let e = c.in-Err.ensures in
    record { yes = tt; kept = tt; none = e.none; no = e.no; price_of_yes = tt; price_of_no = rw e.stopped at c.walk.ensures.price }
