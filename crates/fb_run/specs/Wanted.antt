-- A value that is asked for.
use Rattle.std.specs.Prelude.{ℕ, List}
use Rattle.fb_access.specs.declared.step.Step.{Step}

-- the text of a path, and its steps from the root
pub record Wanted : Type 0 where
  pub text : List ℕ
  pub steps : List Step
