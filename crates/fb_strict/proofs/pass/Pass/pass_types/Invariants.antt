use Rattle.std.proofs.Common.{◌≡◌}
use Rattle.fb_strict.proofs.Typed.{PassedSoFar}
use Rattle.fb_strict.proofs.pass.Pass.pass_types.Given as goal

-- the words so far, which the frame keeps until one is asked
abbrev pub invariant-loop-row : goal.invariant-loop-row
invariant-loop-row g l = PassedSoFar l.self l.fn.reads l.reads l.fn.top l.union l.row l.types × (l.top ≡ l.fn.top)

-- each leaves fewer
abbrev pub decreases-loop-row : goal.decreases-loop-row
decreases-loop-row g l = l.row.left
