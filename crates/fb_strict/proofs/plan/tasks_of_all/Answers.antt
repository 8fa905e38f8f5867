use Rattle.std.proofs.Common.{ap, sym, subst, map, ◌∙◌}
use Rattle.std.proofs.lemmas.List.{map-append}
use Rattle.fb_strict.specs.{Demanded.demanded, Planned.all_wants, Planned.AreTasks}
use Rattle.fb_strict.proofs.Marks.{tasks_then}
use Rattle.fb_strict.proofs.plan.tasks_of_all.Goals as goal

-- src/plan.rt
pub loop-object-preserved : goal.loop-object-preserved
loop-object-preserved g c =
    subst (AreTasks (all_wants (demanded c.args.demands c.args.holdings.now) c.args.marks.now) c.args.schema.now _) (sym (ap (map (λ v. v.items)) c.in_ok-push.ensures.items ∙ map-append (λ v. v.items) c.loop-object.tasks.items _))
    (tasks_then (all_wants (demanded c.args.demands c.args.holdings.now) c.args.marks.now) c.args.schema.now c.loop-object.object _ _ c.loop-object.invariant c.in_ok-tasks_of.ensures)
