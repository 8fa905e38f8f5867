use Rattle.std.proofs.Common.{List, ℕ}
use Rattle.fb_access.specs.{Cutting.IsNext, Kept.IsThere}
use Rattle.fb_access.proofs.Following.{IsWalked, left_of}
use Rattle.fb_access.proofs.path.follow.Given as goal

-- the parts before what is left are these steps
abbrev pub invariant-loop-next : goal.invariant-loop-next
invariant-loop-next g l = record {
  there : IsThere l.schema l.kind;
  left : (left : List ℕ) × IsNext left l.next × IsWalked l.schema l.root l.text left l.steps.items l.kind;
}

-- each part shortens what is left
abbrev pub decreases-loop-next : goal.decreases-loop-next
decreases-loop-next g l = left_of l.next
