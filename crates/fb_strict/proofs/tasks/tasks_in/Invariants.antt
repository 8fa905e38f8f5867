use Rattle.std.proofs.Common.{◌≡◌, map, take}
use Rattle.fb_schema.specs.Live.{live_of_view}
use Rattle.fb_strict.specs.{Demanded.demanded, Planned.all_wants, Planned.tasks_in}
use Rattle.fb_strict.proofs.tasks.tasks_in.Given as goal

abbrev pub invariant-loop-field : goal.invariant-loop-field
invariant-loop-field g l = l.tasks.items ≡ tasks_in (all_wants (demanded l.demands l.holdings) l.marks) l.schema l.object (map live_of_view (take l.field-index l.fields))
