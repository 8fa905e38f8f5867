use Rattle.std.proofs.Common.{◌≡◌, ◌-◌, ◌≤◌, length, take}
use Rattle.fb_strict.specs.Levels.{way_to, above_next}
use Rattle.fb_strict.proofs.levels.Asking.put_levels.Given as goal

-- the links so far are those of as many levels
abbrev pub invariant-loop-passed : goal.invariant-loop-passed
invariant-loop-passed g l = record {
  same : length l.links ≡ length l.fn.links;
  within : l.passed ≤ l.many;
  done : take (above_next l.levels l.passed) l.links ≡ way_to l.self l.frames l.levels l.passed;
}

abbrev pub decreases-loop-passed : goal.decreases-loop-passed
decreases-loop-passed g l = l.many - l.passed
