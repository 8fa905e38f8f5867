-- A path as C has it: steps of a kind and a number.
use Rattle.std.specs.Prelude.{◌≡◌, ℕ, ◌==◌, ◌<◌, ◌≤◌, nat_le, Bool, true, false, List, ◌++◌, drop, length, replicate, slice_index_or, take, Option, Some, None, IsSomeAnd, if◌then◌else◌}
use Rattle.std.specs.List.{AllZip}
use Rattle.fb_schema.specs.{Rows.Rows, declared.kinds.Kind.Kind, declared.kinds.Kind.TheVariants.Table}
use Rattle.fb_rules.specs.declared.start.Start.{Start}
use Rattle.fb_access.specs.{Denotes.Reaches, Denotes.root_spot, Fitting.StepsFit, Here.IsOfKind, declared.step.Step.Step}
use Rattle.fb_access.specs.declared.{step.Step.TheVariants.Field, step.Step.TheVariants.Element, step.Step.TheVariants.Member, spot.Spot.Spot}
use Rattle.fbcheck_calls.specs.declared.steps.{PlainPath.PlainPath, PlainStep.PlainStep}

-- the step of this kind and number, if there is one
abbrev pub step_of : PlainStep → Option Step
step_of p =
    if p.kind == 1 then (if nat_le p.number 65535 then Some (Field p.number) else None)
    else (if p.kind == 2 then Some (Element p.number)
    else (if p.kind == 3 then (if nat_le p.number 255 then Some (Member p.number) else None) else None))

-- these are the steps of a path
abbrev pub AreSteps : List PlainStep → List Step → Type 0
AreSteps plain path = AllZip (λ p s. step_of p ≡ Some s) plain path

-- the steps of a path stand at the front of the room, where it has place for all of them; else the room is as it was
pub record AreInFront (path : List Step) (room room' : List PlainStep) : Type 0 where
  pub front : List PlainStep
  pub steps : AreSteps front path
  pub within : length path ≤ length room
  pub room_is : room' ≡ front ++ drop (length path) room

abbrev pub AreWritten : List Step → List PlainStep → List PlainStep → Bool → Type 0
AreWritten path room room' true = AreInFront path room room'
AreWritten path room room' false = (length room < length path) × (room' ≡ room)

-- where a path has no step
abbrev pub no_step : PlainStep
no_step = record { kind = 0; number = 0 }

-- what C has of the path of these steps; zeros stand behind them
pub record IsPathOf (path : List Step) (p : PlainPath) : Type 0 where
  pub count : p.count ≡ length path
  pub front : AreInFront path (replicate 31 no_step) p.steps

-- the steps that a path as C has it says, none where they are said to be more than there is room for
abbrev pub steps_said : PlainPath → Option (List PlainStep)
steps_said p = if nat_le p.count 31 then Some (take p.count p.steps) else None

-- the steps to one value, none where one of them stands for each element
abbrev pub steps_in : PlainPath → Option (List PlainStep)
steps_in p = if p.each == 0 then steps_said p else None

-- these are steps that fit, each the kind to which those before it lead
abbrev pub FitFrom : Rows → Kind → List PlainStep → Type 0
FitFrom S kind plain = (path : List Step) × AreSteps plain path × StepsFit S kind path

-- these are steps that fit what is at a spot, each what those before it lead to
abbrev pub FitHere : Rows → Spot → List PlainStep → Type 0
FitHere S p plain = (path : List Step) × (kind : Kind) × AreSteps plain path × IsOfKind p kind × StepsFit S kind path

-- they are no such steps from the root table
abbrev pub DontFit : Rows → ℕ → List PlainStep → Type 0
DontFit S root plain = (path : List Step) → AreSteps plain path → StepsFit S (Table root) path → ⊥

-- a path as C has it fits the schema from the root table
abbrev pub FitsFrom : Rows → ℕ → PlainPath → Type 0
FitsFrom S root p = IsSomeAnd (steps_in p) (FitFrom S (Table root))

-- each of them does
abbrev pub AllFit : Rows → ℕ → List PlainPath → Type 0
AllFit S root paths = (k : ℕ) → k < length paths → (p : PlainPath) → FitsFrom S root (slice_index_or paths k p)

-- the path at this place is the first that doesn't
pub record IsFirstMisfit (S : Rows) (root : ℕ) (paths : List PlainPath) (k : ℕ) : Type 0 where
  pub there : k < length paths
  pub misfit : (p : PlainPath) → FitsFrom S root (slice_index_or paths k p) → ⊥
  pub before : (j : ℕ) → j < k → (p : PlainPath) → FitsFrom S root (slice_index_or paths j p)

-- from the root table these steps lead to a spot
abbrev pub EndAt : List ℕ → Rows → Start → ℕ → List PlainStep → Spot → Type 0
EndAt b S start root plain q = (path : List Step) × AreSteps plain path × Reaches b S (root_spot b start root) path q
