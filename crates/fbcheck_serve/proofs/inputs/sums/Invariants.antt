use Rattle.std.proofs.Common.{◌≡◌, ◌++◌, drop, take}
use Rattle.fbcheck_serve.specs.Inputs.{sums}
use Rattle.fbcheck_serve.proofs.inputs.sums.Given as goal

-- the counts up to this place are added
abbrev pub invariant-loop-place : goal.invariant-loop-place
invariant-loop-place l = l.counts ≡ sums (take l.place l.some) l.more ++ drop l.place l.some
