use Rattle.std.proofs.Common.{arith, rules, ◌-◌}
use Rattle.fb_run.proofs.SumsLemmas.{one_reason_more}
use Rattle.fb_run.proofs.summary.put_reasons.Goals as goal

pub loop-place-preserved : goal.loop-place-preserved
loop-place-preserved c =
    let text = one_reason_more c.args.form c.args.counts.now _ _ _ (c.loop-place.place - 1) c.loop-place.place (omega (arith, c.loop-place-test.true)) (search rules)
    c.loop-place.invariant.text c.put_reason.ensures.text in
    search rules
