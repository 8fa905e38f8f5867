-- The laws of paths and values.
use Rattle.std.specs.Prelude.{◌≡◌, ℕ, List, is_some}
use Rattle.fb_schema.specs.Rows.{Rows}
use Rattle.fb_rules.specs.declared.start.Start.{Start}
use Rattle.fb_access.specs.{declared.step.Step.Step, declared.spot.Spot.Spot, Denotes.next_spot, Denotes.allows, Denotes.Shown, Denotes.Denotes}

-- a step leads on exactly where it is allowed
abbrev pub LeadsWhereAllowed : Type 0
LeadsWhereAllowed = (b : List ℕ) (S : Rows) (p : Spot) (s : Step) → is_some (next_spot b S p s) ≡ allows S p s

-- steps have at most one value
abbrev pub HasOneValue : Type 0
HasOneValue = (b : List ℕ) (S : Rows) (start : Start) (root : ℕ) (steps : List Step) (x y : Shown) → Denotes b S start root steps x → Denotes b S start root steps y → x ≡ y
