use Rattle.fb_bfbs.specs.MarkedSlots.{is_slotless}
use Rattle.fb_bfbs.proofs.ByteLemmas.{NoneBefore}
use Rattle.fb_bfbs.proofs.byte_fields.find_slotless.Given as goal

-- the objects so far have no such field
abbrev pub invariant-loop-object : goal.invariant-loop-object
invariant-loop-object l = NoneBefore l.schema (is_slotless l.slots) l.object
