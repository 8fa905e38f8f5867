use Rattle.std.proofs.Common.{◌≡◌, ◌≤◌, length}
use Rattle.fb_strict.specs.Levels.{AreEnough, IsUnderWay, turns_left}
use Rattle.fb_strict.proofs.levels.Asking.run.Given as goal

-- the verdict is under way
abbrev pub invariant-loop-many : goal.invariant-loop-many
invariant-loop-many g l = record {
  under : IsUnderWay l.self l.spent l.frames l.levels l.many;
  frames : l.self.question.limits.depth ≡ length l.frames;
  levels : l.self.question.limits.depth ≤ length l.levels;
  lent : AreEnough l.self.question.limits.depth (length l.lent) (length l.links);
}

-- each turn leaves fewer
abbrev pub decreases-loop-many : goal.decreases-loop-many
decreases-loop-many g l = turns_left l.self l.spent l.many
