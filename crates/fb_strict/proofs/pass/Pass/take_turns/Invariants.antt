use Rattle.fb_strict.specs.Passing.{work_left}
use Rattle.fb_strict.proofs.Looping.{WentSoFar}
use Rattle.fb_strict.proofs.pass.Pass.take_turns.Given as goal

-- the turns so far
abbrev pub invariant-loop-open : goal.invariant-loop-open
invariant-loop-open g l = WentSoFar l.self l.fn.reads l.reads l.fn.frames l.fn.many l.frames l.open

-- each leaves less work
abbrev pub decreases-loop-open : goal.decreases-loop-open
decreases-loop-open g l = work_left l.self l.reads.count l.frames l.open
