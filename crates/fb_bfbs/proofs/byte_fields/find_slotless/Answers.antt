use Rattle.std.proofs.Common.{arith}
use Rattle.fb_bfbs.specs.MarkedSlots.{is_slotless}
use Rattle.fb_bfbs.proofs.ByteLemmas.{no_more_objects, no_object}
use Rattle.fb_bfbs.proofs.byte_fields.find_slotless.Goals as goal

pub loop-object-init : goal.loop-object-init
loop-object-init c k low f is = absurd (omega (arith, low))

pub loop-object-preserved : goal.loop-object-preserved
loop-object-preserved c = no_more_objects c.args.schema.now (is_slotless c.args.slots.now) c.loop-object.object c.in_default.ensures.none c.loop-object.invariant

pub returns-clause-none : goal.returns-clause-none
returns-clause-none c = no_object c.args.schema.now (is_slotless c.args.slots.now) c.loop-object.object (omega (arith, c.loop-object-test.false, c.object_count-object-end.ensures)) c.loop-object.invariant
