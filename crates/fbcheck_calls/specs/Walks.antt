-- Steps from a spot on, in bytes that aren't checked.
use Rattle.std.specs.Prelude.{◌≡◌, ℕ, List, ◌∷◌, ◌++◌, length}
use Rattle.fb_schema.specs.{Rows.Rows, declared.kinds.Kind.TheVariants.Table}
use Rattle.fb_rules.specs.declared.start.Start.{Start}
use Rattle.fb_access.specs.{Denotes.Reaches, Held.IsSpot, Tested.IsOther, Tested.IsTested, declared.step.Step.Step, declared.spot.Spot.Spot}
use Rattle.fbcheck_calls.specs.{Again.LiesWithin, Each.elements_of, Each.to_element, Steps.AreSteps, Steps.EndAt, Steps.FitFrom, Steps.FitHere, Values.value_at}
use Rattle.fbcheck_calls.specs.declared.{steps.PlainStep.PlainStep, values.Value.Value}

-- from this spot these steps lead to that one
abbrev pub LeadTo : List ℕ → Rows → Spot → List PlainStep → Spot → Type 0
LeadTo b S p plain q = (path : List Step) × AreSteps plain path × Reaches b S p path q

-- no steps that begin so fit here
abbrev pub NoneFit : Rows → Spot → List PlainStep → Type 0
NoneFit S p plain = (rest : List PlainStep) → FitHere S p (plain ++ rest) → ⊥

-- no steps that begin so fit from the root table
abbrev pub DontBegin : Rows → ℕ → List PlainStep → Type 0
DontBegin S root plain = (rest : List PlainStep) → FitFrom S (Table root) (plain ++ rest) → ⊥

-- these steps lead from this spot to that one, which was tested; what holds and fits here goes on there
pub record GoTo (b : List ℕ) (S : Rows) (p : Spot) (plain : List PlainStep) (q : Spot) : Type 0 where
  pub tested : IsTested b S q
  pub lead : LeadTo b S p plain q
  pub held : IsSpot b S p → IsSpot b S q
  pub fit : (rest : List PlainStep) → FitHere S p (plain ++ rest) → FitHere S q rest

-- what is told at a spot: its value, whose bytes lie in these
pub record IsToldAt (b : List ℕ) (S : Rows) (q : Spot) (v : Value) : Type 0 where
  pub value : v ≡ value_at b S q
  pub within : LiesWithin (length b) v

-- what is told at the end of these steps from a spot
abbrev pub IsToldFrom : List ℕ → Rows → Spot → List PlainStep → Value → Type 0
IsToldFrom b S p plain v = (q : Spot) × LeadTo b S p plain q × IsToldAt b S q v

-- what is told of element j of what is at a spot, at the end of the steps behind it
abbrev pub IsElementTold : List ℕ → Rows → Spot → List PlainStep → ℕ → Value → Type 0
IsElementTold b S p after j v = IsToldFrom b S p (to_element j ∷ after) v

-- where these steps lead from the root table, with so many elements
pub record IsVector (b : List ℕ) (S : Rows) (start : Start) (root : ℕ) (before : List PlainStep) (q : Spot) (n : ℕ) : Type 0 where
  pub tested : IsTested b S q
  pub ends : EndAt b S start root before q
  pub other : (IsSpot b S q → ⊥) → IsOther b S start root
  pub fit : (rest : List PlainStep) → FitFrom S (Table root) (before ++ rest) → FitHere S q rest
  pub told : (v : Value) × IsToldAt b S q v × (n ≡ elements_of v)
