-- A part of a path: the steps that are taken, and those that are left.
use Rattle.std.specs.Prelude.{ℕ, List}
use Rattle.fb_schema.specs.{declared.kinds.Kind.Kind, Rows.Rows}
use Rattle.fb_access.specs.{Fitting.StepsFit, Denotes.Reaches, Here.IsOfKind, declared.step.Step.Step, declared.spot.Spot.Spot}

-- the steps taken lead from the first spot to this one, and those that are left fit from here
pub record IsWalked (b : List ℕ) (S : Rows) (first : Spot) (taken left : List Step) (q : Spot) : Type 0 where
  pub reached : Reaches b S first taken q
  pub kind : Kind
  pub is : IsOfKind q kind
  pub fits : StepsFit S kind left
