use Rattle.std.proofs.Common.{◌≡◌, map, take}
use Rattle.fb_schema.specs.{Live.live_of_view, Steps.step_of}
use Rattle.fb_schema.proofs.steps.field_steps.Given as goal

abbrev pub invariant-loop-field : goal.invariant-loop-field
invariant-loop-field g l = l.steps.items ≡ map (λ f. step_of (live_of_view f)) (take l.field-index l.fields)
