use Rattle.fb_strict.proofs.KnownSlots.{Walked}
use Rattle.fb_strict.proofs.pass.Pass.pass_slots.Given as goal

abbrev pub invariant-loop-passed : goal.invariant-loop-passed
invariant-loop-passed g l = Walked l.self l.fn.reads l.reads l.child l.count l.next l.passed
