use Rattle.std.proofs.Common.{◌≡◌, false}
use Rattle.fb_strict.specs.{Demanded.demanded, Skipped.some_member, Planned.all_wants}
use Rattle.fb_strict.proofs.tasks.has_asked_member.Given as goal

abbrev pub invariant-loop-value : goal.invariant-loop-value
invariant-loop-value l = some_member (all_wants (demanded l.demands l.holdings) l.marks) l.schema l.union l.value ≡ false
