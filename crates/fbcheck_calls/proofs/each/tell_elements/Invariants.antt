use Rattle.std.proofs.Common.{◌+◌}
use Rattle.fbcheck_calls.specs.{Again.AreFilled, Walks.IsElementTold}
use Rattle.fbcheck_calls.proofs.each.tell_elements.Given as goal

-- each element below this place is told
abbrev pub invariant-loop-place : goal.invariant-loop-place
invariant-loop-place l = record {
  told : AreFilled (λ k v. IsElementTold l.window l.schema l.found.spot l.after (l.first + k) v) l.place l.fn.values l.values;
}
