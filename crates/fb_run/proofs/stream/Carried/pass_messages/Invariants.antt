use Rattle.std.proofs.Common.{◌≡◌, ◌++◌, List, ℕ, length}
use Rattle.fb_run.specs.{Pieces.GoesOn, Pieces.carry_of, Spot.HasDue, Spot.past_all}
use Rattle.fb_run.proofs.stream.Carried.pass_messages.Given as goal

abbrev pub invariant-loop-rest : goal.invariant-loop-rest
invariant-loop-rest g l = record {
  passed : (front : List ℕ) × (l.piece ≡ front ++ l.rest) × GoesOn l.checker front (carry_of g.K.Sink g.N.Sink g.R.Sink l.initial.self l.initial.writer l.initial.notes l.initial.rejects) (carry_of g.K.Sink g.N.Sink g.R.Sink l.self l.writer l.notes l.rejects);
  due : HasDue l.checker (past_all l.checker l.self.output.counter) l.due;
}

abbrev pub decreases-loop-rest : goal.decreases-loop-rest
decreases-loop-rest g l = length l.rest
