use Rattle.std.proofs.Common.{ℕ, ◌<◌, get_or}
use Rattle.fbcheck_calls.specs.{Steps.FitsFrom, declared.steps.PlainPath.PlainPath}
use Rattle.fbcheck_calls.proofs.fits.first_misfit.Given as goal

-- the paths before this place fit
abbrev pub invariant-loop-place : goal.invariant-loop-place
invariant-loop-place l = record {
  below : (k : ℕ) → k < l.place → (p : PlainPath) → FitsFrom l.schema l.root (get_or l.paths k p);
}
