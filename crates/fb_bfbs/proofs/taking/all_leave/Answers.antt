use Rattle.std.proofs.Common.{ap, arith}
use Rattle.std.proofs.lemmas.List.Sums.{sum_by_more}
use Rattle.fb_bfbs.proofs.taking.all_leave.Goals as goal

pub loop-item-preserved : goal.loop-item-preserved
loop-item-preserved g c =
    let more = sum_by_more g.T.Takes.takes c.args.items.now c.loop-item.item-index c.item-item.result c.loop-item-test.true in
    omega (arith, more, ap g.T.Takes.takes c.item-item.is, c.loop-item.invariant, c.in_ok-rest.ensures.0, c.in_ok-rest.ensures.1)
