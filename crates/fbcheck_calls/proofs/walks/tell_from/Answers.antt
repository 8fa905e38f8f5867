use Rattle.fb_access.proofs.Tested.{changed}
use Rattle.fbcheck_calls.proofs.walks.tell_from.Goals as goal

pub returns-in_err-tell-in-Some : goal.returns-in_err-tell-in-Some
returns-in_err-tell-in-Some c =
    let go = rw c.in-Some.is at c.in_ok-end.ensures in
    changed _ _ _ _ c.from_residual-in_err-tell-in-Some.ensures.1 (λ h. c.in_err-tell-in-Some.ensures (go.held h))

pub returns-in_ok-tell-in-Some : goal.returns-in_ok-tell-in-Some
returns-in_ok-tell-in-Some c =
    let go = rw c.in-Some.is at c.in_ok-end.ensures in
    (c.in-Some.end, go.lead, c.in_ok-tell-in-Some.ensures)
