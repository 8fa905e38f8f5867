use Rattle.fb_bfbs.specs.MarkedSlots.{is_slotless}
use Rattle.fb_bfbs.proofs.ByteLemmas.{NoneSo}
use Rattle.fb_bfbs.proofs.byte_fields.slotless_in.Given as goal

-- the fields so far aren't of bytes, or have such slots
abbrev pub invariant-loop-place : goal.invariant-loop-place
invariant-loop-place l = NoneSo l.schema l.object (is_slotless l.slots l.object) l.place
