-- How the path of a text comes about.
use Rattle.std.specs.Prelude.{◌≡◌, ℕ, ◌<◌, List, length, take}
use Rattle.fb_schema.specs.{Rows.Rows, declared.kinds.Kind.TheVariants.Table}
use Rattle.fb_access.specs.{Fitting.StepsFit, Resolving.Resolves, Resolving.Refuses, declared.step.Step.Step}
use Rattle.fbcheck_calls.specs.{Marked.IsEachAfter, Marked.at_zero, Steps.IsPathOf, declared.outcome.Outcome.Outcome, declared.steps.PlainPath.PlainPath}
use Rattle.fbcheck_calls.specs.declared.outcome.Outcome.TheVariants.{NoRoom, BadPath}

-- the text resolves from the root to the steps of the path, and this holds of them and of the one for each element
pub record IsPathWith (S : Rows) (root : ℕ) (text : List ℕ) (P : List Step → ℕ → Type 0) (p : PlainPath) : Type 0 where
  pub path : List Step
  pub resolves : Resolves S root text path
  pub fits : StepsFit S (Table root) path
  pub written : IsPathOf path p
  pub each : P path p.each

-- of a text without [*], and of one with [*] at this place
abbrev pub IsPathFor : Rows → ℕ → List ℕ → PlainPath → Type 0
IsPathFor S root text p = IsPathWith S root text (λ path each. each ≡ 0) p

abbrev pub IsMarkedPath : Rows → ℕ → List ℕ → ℕ → PlainPath → Type 0
IsMarkedPath S root text at p = IsPathWith S root (at_zero text at) (IsEachAfter S root (take at text)) p

-- why there is none
abbrev pub HasNoPath : Rows → ℕ → List ℕ → Outcome → Type 0
HasNoPath S root text (BadPath fault) = Refuses S root text fault
HasNoPath S root text NoRoom = (path : List Step) × Resolves S root text path × (31 < length path)
HasNoPath S root text _ = ⊥
