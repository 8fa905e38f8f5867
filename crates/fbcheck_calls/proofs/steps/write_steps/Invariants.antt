use Rattle.std.proofs.Common.{◌≡◌, List, ◌++◌, drop, take}
use Rattle.fbcheck_calls.specs.{Steps.AreSteps, declared.steps.PlainStep.PlainStep}
use Rattle.fbcheck_calls.proofs.steps.write_steps.Given as goal

-- the steps before this place stand in front
abbrev pub invariant-loop-place : goal.invariant-loop-place
invariant-loop-place l = record {
  written : (front : List PlainStep) × AreSteps front (take l.place l.path) × (l.room ≡ front ++ drop l.place l.initial.room);
}
