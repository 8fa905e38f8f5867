use Rattle.std.proofs.Common.{map}
use Rattle.fb_strict.specs.{Demanded.demanded, Planned.all_wants, Planned.AreTasks}
use Rattle.fb_strict.proofs.plan.tasks_of_all.Given as goal

abbrev pub invariant-loop-object : goal.invariant-loop-object
invariant-loop-object g l = AreTasks (all_wants (demanded l.demands l.holdings) l.marks) l.schema l.object (map (λ v. v.items) l.tasks.items)
