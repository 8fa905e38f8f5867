use Rattle.std.proofs.Common.{sym, ap, ◌∙◌}
use Rattle.std.specs.List.{list_any}
use Rattle.fb_schema.specs.Live.{Live, live_of_view}
use Rattle.fb_schema.proofs.Blank.{blank_view}
use Rattle.fb_strict.specs.{Demanded.demanded, Skipped.is_kind_asked, Planned.all_wants}
use Rattle.fb_strict.proofs.{Lists.one_does, Marks.kind_there}
use Rattle.fb_strict.proofs.tasks.has_asked_kind.Goals as goal

-- src/tasks.rt
pub is_asked-requires : goal.is_asked-requires
is_asked-requires c = kind_there c.args.schema.now c.args.object c.fields_of-fields.result.now c.loop-field.field-index blank_view c.lawful.ensures.served c.fields_of-fields.ensures.value c.loop-field-test.true

-- src/tasks.rt
pub returns-then-is_asked : goal.returns-then-is_asked
returns-then-is_asked c =
    let w = all_wants (demanded c.args.demands c.args.holdings.now) c.args.marks.now in
    let test = λ (f : Live). is_kind_asked w c.args.schema.now f.kind in
    sym (ap (list_any test) (sym c.fields_of-fields.ensures.value) ∙ one_does live_of_view test c.fields_of-fields.result.now c.loop-field.field-index blank_view c.loop-field-test.true (sym c.is_asked.ensures ∙ c.if-is_asked.true))
