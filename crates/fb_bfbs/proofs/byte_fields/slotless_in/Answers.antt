use Rattle.std.proofs.Common.{arith, sym, ◌∙◌}
use Rattle.fb_schema.specs.Live.{live_of_view}
use Rattle.fb_bfbs.specs.MarkedSlots.{is_slotless}
use Rattle.fb_bfbs.proofs.ByteLemmas.{no_field, none_more, none_so}
use Rattle.fb_bfbs.proofs.byte_fields.slotless_in.Goals as goal

pub returns-then-not-is_table-clause-none : goal.returns-then-not-is_table-clause-none
returns-then-not-is_table-clause-none c = no_field c.args.schema.now c.args.object (is_slotless c.args.slots.now c.args.object) (sym c.is_table.ensures ∙ c.if-not-is_table.true)

pub loop-place-init : goal.loop-place-init
loop-place-init c i f low at = absurd (omega (arith, low))

pub loop-place-preserved : goal.loop-place-preserved
loop-place-preserved c =
    none_more c.args.schema.now c.args.object (is_slotless c.args.slots.now c.args.object) c.loop-place.place (live_of_view c.field_at-field.result) c.field_at-field.ensures
    (sym c.is_slotless.ensures ∙ c.if-is_slotless.false) c.loop-place.invariant

pub returns-then-is_slotless-clause-some : goal.returns-then-is_slotless-clause-some
returns-then-is_slotless-clause-some c = record { place = c.loop-place.place; at = c.field_at-field.ensures; is = sym c.is_slotless.ensures ∙ c.if-is_slotless.true }

pub returns-clause-none : goal.returns-clause-none
returns-clause-none c =
    none_so c.args.schema.now c.args.object (is_slotless c.args.slots.now c.args.object) c.loop-place.place (omega (arith, c.loop-place-test.false, c.field_count-place-end.ensures)) c.loop-place.invariant
