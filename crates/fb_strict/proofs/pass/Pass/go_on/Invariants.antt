use Rattle.fb_strict.specs.Passing.{work_left}
use Rattle.fb_strict.proofs.Looping.{WentSoFar}
use Rattle.fb_strict.proofs.pass.Pass.go_on.Given as goal

-- the pass so far
abbrev pub invariant-loop-many : goal.invariant-loop-many
invariant-loop-many g l = WentSoFar l.self l.fn.loan l.loan l.fn.frames l.fn.many l.frames l.many

-- each round leaves less work
abbrev pub decreases-loop-many : goal.decreases-loop-many
decreases-loop-many g l = work_left l.self l.loan.count l.frames l.many
