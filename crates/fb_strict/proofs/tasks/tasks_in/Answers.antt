use Rattle.std.proofs.Common.{sym, ◌∙◌, ap, get_or, option_map}
use Rattle.fb_schema.specs.Live.{live_of_view}
use Rattle.fb_schema.proofs.Blank.{blank_view}
use Rattle.fb_strict.specs.{Demanded.demanded, Planned.all_wants, Planned.task_of, Planned.task_with}
use Rattle.fb_strict.proofs.{Lists.keeps, Lists.leaves_out, Marks.kind_there}
use Rattle.fb_strict.proofs.tasks.tasks_in.Goals as goal
use Rattle.fb_strict.proofs.tasks.tasks_in.Goals.{in-Some+in_ok-push, in_default}

-- src/tasks.rt
pub asked_of-requires : goal.asked_of-requires
asked_of-requires g c = kind_there c.args.schema.now c.args.object c.fields_of-fields.result.now c.loop-field.field-index blank_view c.lawful.ensures.served c.fields_of-fields.ensures.value c.loop-field-test.true

-- src/tasks.rt
pub loop-field-preserved : goal.loop-field-preserved
loop-field-preserved g c =
    let fields = c.fields_of-fields.result.now in
    let h = task_of (all_wants (demanded c.args.demands c.args.holdings.now) c.args.marks.now) c.args.schema.now c.args.object in
    let i = c.loop-field.field-index in
    let x = live_of_view (get_or fields i blank_view) in
    elim c.match-asked_of.branch [
      | in-Some+in_ok-push w ↦ keeps live_of_view h fields i blank_view c.loop-field.tasks.items _ _ c.loop-field-test.true c.loop-field.invariant
          (ap (λ v. v.items) w.tasks-is ∙ w.in_ok-push.ensures.items) (ap (option_map (task_with x)) (sym c.asked_of.ensures ∙ w.in-Some.is))
      | in_default w ↦ ap (λ v. v.items) w.tasks-is ∙ leaves_out live_of_view h fields i blank_view c.loop-field.tasks.items
          c.loop-field-test.true c.loop-field.invariant (ap (option_map (task_with x)) (sym c.asked_of.ensures ∙ w.in_default.is))
    ]
