use Rattle.std.proofs.Common.{map, sym, ◌∙◌}
use Rattle.fb_bfbs.specs.Marks.{marked}
use Rattle.fb_bfbs.proofs.ByteLemmas.{none_if_written, unmarked_found}
use Rattle.fb_bfbs.proofs.byte_fields.find_unmarked.Goals as goal

pub returns-then-are_written : goal.returns-then-are_written
returns-then-are_written c = none_if_written c.args.schema.now _ _ (sym c.are_written.ensures ∙ c.if-are_written.true)

pub find_slotless-requires : goal.find_slotless-requires
find_slotless-requires c = rw c.deref.ensures.value (c.in_ok-slots.ensures.rises)

pub returns : goal.returns
returns c =
    unmarked_found c.args.schema.now (map marked c.args.marks.now.fields.items) c.in_ok-slots.slots.items (rw c.as_slice.ensures.value at c.in_ok-slots.ensures) c.args.marks.now.builtins c.find_slotless.result
    (sym c.are_written.ensures ∙ c.if-are_written.false) (rw c.deref.ensures.value at c.find_slotless.ensures.some) (rw c.deref.ensures.value at c.find_slotless.ensures.none)
