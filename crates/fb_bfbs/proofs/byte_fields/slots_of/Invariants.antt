use Rattle.std.proofs.Common.{take}
use Rattle.fb_bfbs.proofs.ByteLemmas.{AreSlotsOf}
use Rattle.fb_bfbs.proofs.byte_fields.slots_of.Given as goal

-- each mark so far gave its slot
abbrev pub invariant-loop-mark : goal.invariant-loop-mark
invariant-loop-mark l = AreSlotsOf (take l.mark-index l.marks) l.slots.items
