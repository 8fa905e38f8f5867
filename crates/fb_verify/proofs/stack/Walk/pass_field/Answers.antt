use Rattle.std.proofs.Common.{refl}
use Rattle.fb_rules.specs.{Cost.own_reads, Fields.entries, Order.own_failure}
use Rattle.fb_rules.proofs.Refusals.{unfailed, tested_then, asked_ok, asked_err}
use Rattle.fb_verify.proofs.stack.Walk.pass_field.Goals as goal

pub returns-in_err-answer-clause-asked : goal.returns-in_err-answer-clause-asked
unfolding own_failure own_reads
returns-in_err-answer-clause-asked c =
    let e = rw (c.slot_at-at.ensures.value, c.slot_at-at.ensures.counted, c.lend-reads.ensures.lent) at c.put_field-failed.ensures in
    asked_err _ c.from_residual.result c.from_residual.ensures.1 (rw c.lend-reads.ensures.bare at c.in_err-answer.ensures _ _ _ _ (tested_then _ _ _ refl e.tested))

pub returns : goal.returns
unfolding own_failure own_reads entries
returns c =
    let e = rw (c.slot_at-at.ensures.value, c.slot_at-at.ensures.counted, c.lend-reads.ensures.lent) at c.put_field-failed.ensures in
    let t = tested_then _ _ _ refl e.tested in
    let asked = rw c.lend-reads.ensures.bare at c.in_ok-answer.ensures _ _ _ _ t in
    record { asked = asked_ok _ _ asked; leads = e.leads (unfailed _ _ _ _ _ t.told asked.ok) }
