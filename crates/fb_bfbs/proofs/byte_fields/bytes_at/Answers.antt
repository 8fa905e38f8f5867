use Rattle.std.proofs.Common.{rules, refl, sym, ◌∙◌}
use Rattle.std.proofs.lemmas.List.Sorted.{answers_always}
use Rattle.fb_schema.specs.Live.{live_of_view}
use Rattle.fb_bfbs.specs.ByteFields.{is_at}
use Rattle.fb_bfbs.proofs.ByteLemmas.{found_slot, missed_slot, no_field, other_slot, stands_at}
use Rattle.fb_bfbs.proofs.byte_fields.bytes_at.Goals as goal

pub returns-then-not-is_table-clause-none : goal.returns-then-not-is_table-clause-none
returns-then-not-is_table-clause-none c = no_field c.args.schema.now c.args.table (is_at c.args.slot) (sym c.is_table.ensures ∙ c.if-not-is_table.true)

pub returns-in_default-clause-none : goal.returns-in_default-clause-none
returns-in_default-clause-none c =
    missed_slot c.args.schema.now c.lawful.ensures.served c.args.table c.fields_of-fields.result.now c.fields_of-fields.ensures.value c.in_default.field-0 c.args.slot
    (c.in_default.ensures.position (λ f. f.slot) (answers_always _ _ _ (λ f a r g called. search rules)))

pub returns-then-not-is_bytes-clause-none : goal.returns-then-not-is_bytes-clause-none
returns-then-not-is_bytes-clause-none c =
    other_slot c.args.schema.now c.lawful.ensures.served c.args.table c.in-Ok.place c.args.slot (live_of_view c.field_at-field.result) c.field_at-field.ensures
    (found_slot c.args.schema.now c.lawful.ensures.served c.args.table c.fields_of-fields.result.now c.fields_of-fields.ensures.value c.in-Ok.place c.args.slot c.field_at-field.result c.in-Ok.ensures.bound
    (c.in-Ok.ensures.position (λ f. f.slot) (answers_always _ _ _ (λ f a r g called. search rules))) c.field_at-field.ensures)
    (sym c.is_bytes.ensures ∙ c.if-not-is_bytes.true)

pub returns-clause-some : goal.returns-clause-some
returns-clause-some c = (
  stands_at c.args.schema.now c.args.table c.in-Ok.place c.args.slot (live_of_view c.field_at-field.result) c.field_at-field.ensures
      (found_slot c.args.schema.now c.lawful.ensures.served c.args.table c.fields_of-fields.result.now c.fields_of-fields.ensures.value c.in-Ok.place c.args.slot c.field_at-field.result c.in-Ok.ensures.bound
      (c.in-Ok.ensures.position (λ f. f.slot) (answers_always _ _ _ (λ f a r g called. search rules))) c.field_at-field.ensures)
      (sym c.is_bytes.ensures ∙ c.if-not-is_bytes.false),
  refl,
)
