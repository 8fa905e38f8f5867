use Rattle.fbcheck_calls.specs.Again.{AreToldBelow}
use Rattle.fbcheck_calls.proofs.again.tell_again.Given as goal

-- each value below this place is told
abbrev pub invariant-loop-place : goal.invariant-loop-place
invariant-loop-place l = record {
  told : AreToldBelow l.window l.schema l.fn.start l.root l.paths l.place l.fn.values l.values;
}
