use Rattle.std.proofs.Common.{ℕ, ◌<◌}
use Rattle.fbcheck_calls.specs.Marked.{HasMark}
use Rattle.fbcheck_calls.proofs.resolving.first_mark.Given as goal

-- it begins at no place before this
abbrev pub invariant-loop-at : goal.invariant-loop-at
invariant-loop-at l = record {
  none : (k : ℕ) → k < l.at → HasMark l.text k → ⊥;
}
