use Rattle.std.proofs.Common.{◌≡◌, ◌≤◌, length}
use Rattle.fb_strict.specs.Holding.{found_within}
use Rattle.fb_strict.proofs.holding.found_from.Given as goal

-- no namespace past this one has such a table
abbrev pub invariant-loop-around : goal.invariant-loop-around
invariant-loop-around g l = record {
  within : l.around ≤ length l.owner;
  same : found_within l.schema l.owner l.name (length l.owner) ≡ found_within l.schema l.owner l.name l.around;
}

abbrev pub decreases-loop-around : goal.decreases-loop-around
decreases-loop-around g l = l.around
