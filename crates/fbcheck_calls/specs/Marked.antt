-- Texts of paths in which [*] stands for the number of each element.
use Rattle.std.specs.Prelude.{◌≡◌, ℕ, ◌+◌, ◌<◌, List, ◌∷◌, ◌++◌, drop, length, slice_index, take, Option, Some, None}
use Rattle.fb_schema.specs.Rows.{Rows}
use Rattle.fb_access.specs.{Resolving.Resolves, declared.step.Step.Step, declared.step.Step.TheVariants.Element}

-- [*] begins at this place of a text
pub record HasMark (text : List ℕ) (at : ℕ) : Type 0 where
  pub within : at + 2 < length text
  pub opens : slice_index text at ≡ 91
  pub star : slice_index text (at + 1) ≡ 42
  pub closes : slice_index text (at + 2) ≡ 93

-- where the first [*] of a text begins, none where it has none
abbrev pub IsFirstMark : List ℕ → Option ℕ → Type 0
IsFirstMark text None = (k : ℕ) → HasMark text k → ⊥
IsFirstMark text (Some at) = HasMark text at × ((k : ℕ) → k < at → HasMark text k → ⊥)

-- a text with [0] for the [*] at this place
abbrev pub at_zero : List ℕ → ℕ → List ℕ
at_zero text at = take (at + 1) text ++ 48 ∷ drop (at + 2) text

-- the same, if there is one
abbrev pub plain_text : List ℕ → Option ℕ → List ℕ
plain_text text None = text
plain_text text (Some at) = at_zero text at

-- a step to an element stands behind the steps of the text before [*], and this is 1 more than these are
pub record IsEachAfter (S : Rows) (root : ℕ) (before : List ℕ) (path : List Step) (each : ℕ) : Type 0 where
  pub front : List Step
  pub back : List Step
  pub resolves : Resolves S root before front
  pub stands : path ≡ front ++ Element 0 ∷ back
  pub number : each ≡ length front + 1

-- which of a text's steps stands for each element, counted from 1 on; 0 for none
abbrev pub IsEach : Rows → ℕ → List ℕ → Option ℕ → List Step → ℕ → Type 0
IsEach S root text None path each = each ≡ 0
IsEach S root text (Some at) path each = IsEachAfter S root (take at text) path each
