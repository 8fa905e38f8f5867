use Rattle.fb_strict.specs.{Demanded.demanded, Marking.OwnMarked}
use Rattle.fb_strict.proofs.marking.Marking.mark_own.Given as goal

abbrev pub invariant-loop-object : goal.invariant-loop-object
invariant-loop-object g l = OwnMarked (demanded l.demands l.holdings) l.schema l.object l.self.marks.items l.self.queue.items
