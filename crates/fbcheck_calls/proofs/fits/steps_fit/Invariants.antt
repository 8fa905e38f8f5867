use Rattle.std.proofs.Common.{drop}
use Rattle.fb_schema.specs.declared.kinds.Kind.TheVariants.{Table}
use Rattle.fbcheck_calls.specs.Steps.{FitFrom}
use Rattle.fbcheck_calls.proofs.fits.steps_fit.Given as goal

-- the steps that are left fit from here where all fit from the root
abbrev pub invariant-loop-given : goal.invariant-loop-given
invariant-loop-given l = record {
  on : FitFrom l.schema (Table l.root) l.steps → FitFrom l.schema l.kind (drop l.given-index l.steps);
  back : FitFrom l.schema l.kind (drop l.given-index l.steps) → FitFrom l.schema (Table l.root) l.steps;
}
