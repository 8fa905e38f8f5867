use Rattle.std.proofs.Common.{arith}
use Rattle.fb_bfbs.proofs.ByteLemmas.{slot_added, slots_sorted}
use Rattle.fb_bfbs.proofs.byte_fields.slots_of.Goals as goal

pub loop-mark-preserved : goal.loop-mark-preserved
loop-mark-preserved c = slot_added c.args.marks.now c.loop-mark.mark-index _ c.loop-mark.slots.items _ c.loop-mark-test.true c.loop-mark.invariant c.in_ok-push.ensures.items

pub returns : goal.returns
returns c =
    slots_sorted c.args.marks.now c.loop-mark.mark-index c.loop-mark.slots.items _ c.loop-mark-test.false c.loop-mark.invariant c.sort_unstable.ensures.permutation c.sort_unstable.ensures.sorted (omega arith)
