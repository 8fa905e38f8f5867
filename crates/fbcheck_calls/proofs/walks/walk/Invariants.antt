use Rattle.std.proofs.Common.{List, ◌++◌, drop}
use Rattle.fb_schema.specs.Served.{IsServed}
use Rattle.fb_access.specs.{Held.IsSpot, Tested.IsTested}
use Rattle.fbcheck_calls.specs.{Steps.FitHere, Walks.LeadTo, declared.steps.PlainStep.PlainStep}
use Rattle.fbcheck_calls.proofs.StepLemmas.{IsReachedBy}
use Rattle.fbcheck_calls.proofs.walks.walk.Given as goal

-- where the steps that are left lead is where all end, and they fit here where all fit where they begin; what is here was
-- tested, and is a good buffer's if what stood there is
abbrev pub invariant-loop-given : goal.invariant-loop-given
invariant-loop-given l = record {
  served : IsServed l.schema;
  tested : IsTested l.window l.schema l.spot;
  held : IsSpot l.window l.schema l.fn.from → IsSpot l.window l.schema l.spot;
  reached : IsReachedBy l.window l.schema l.spot (drop l.given-index l.steps) (LeadTo l.window l.schema l.fn.from l.steps);
  fit : (rest : List PlainStep) → FitHere l.schema l.fn.from (l.steps ++ rest) → FitHere l.schema l.spot (drop l.given-index l.steps ++ rest);
}
