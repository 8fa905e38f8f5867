use Rattle.std.proofs.Common.{rules, sym, ◌∙◌}
use Rattle.std.proofs.lemmas.List.Sorted.{answers_always}
use Rattle.fb_strict.proofs.BySlot.{found, missed}
use Rattle.fb_strict.proofs.holding.has_bytes.Goals as goal

-- src/holding.rt
pub returns-in-Ok : goal.returns-in-Ok
returns-in-Ok c =
    c.is_bytes.ensures ∙ found c.args.schema.now c.lawful.ensures.served c.args.object c.args.slot c.fields_of-fields.result.now c.fields_of-fields.ensures.value c.in-Ok.place _ c.in-Ok.ensures.bound
    (c.in-Ok.ensures.position (λ f. f.slot) (answers_always _ _ _ (λ f a r g called. search rules)))

pub returns-in-Err : goal.returns-in-Err
returns-in-Err c =
    sym (missed c.args.schema.now c.lawful.ensures.served c.args.object c.args.slot c.fields_of-fields.result.now c.fields_of-fields.ensures.value c.in-Err.field-0
    (c.in-Err.ensures.position (λ f. f.slot) (answers_always _ _ _ (λ f a r g called. search rules))))
