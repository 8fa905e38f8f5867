use Rattle.fb_rules.proofs.Refusals.{unfailed, asked_ok, asked_err}
use Rattle.fb_verify.proofs.stack.Walk.read_head.Goals as goal

pub returns-in_err-answer-clause-asked : goal.returns-in_err-answer-clause-asked
returns-in_err-answer-clause-asked c =
    asked_err _ c.from_residual.result c.from_residual.ensures.1 (rw c.lend-reads.ensures.bare at c.in_err-answer.ensures _ _ _ _ (rw c.lend-reads.ensures.lent at c.test_head-failed.ensures.tested))

pub returns : goal.returns
returns c =
    let e = rw c.lend-reads.ensures.lent at c.test_head-failed.ensures in
    let asked = rw c.lend-reads.ensures.bare at c.in_ok-answer.ensures _ _ _ _ e.tested in
    record { asked = asked_ok _ _ asked; head = e.head (unfailed _ _ _ _ _ e.tested.told asked.ok) }
