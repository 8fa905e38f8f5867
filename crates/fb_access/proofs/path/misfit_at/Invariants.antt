use Rattle.std.proofs.Common.{List, ℕ}
use Rattle.fb_access.specs.{Cutting.IsNext, Kept.IsThere, declared.step.Step.Step}
use Rattle.fb_access.proofs.Following.{IsWalked, left_of}
use Rattle.fb_access.proofs.path.misfit_at.Given as goal

-- the parts before what is left are some steps
abbrev pub invariant-loop-next : goal.invariant-loop-next
invariant-loop-next l = record {
  there : IsThere l.schema l.kind;
  left : (left : List ℕ) × IsNext left l.next × (steps : List Step) × IsWalked l.schema l.root l.text left steps l.kind;
}

-- each part shortens what is left
abbrev pub decreases-loop-next : goal.decreases-loop-next
decreases-loop-next l = left_of l.next
