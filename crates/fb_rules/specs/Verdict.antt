-- What a verdict says of a buffer.
use Rattle.std.specs.Prelude.{◌≡◌, ℕ, List}
use Rattle.fb_rules.specs.{declared.fault.Report.Report, Question.Question, Tree.Tree, Tree.size, Tree.depth, WellFormed.IsWellFormed, WellFormed.IsWithin, WellFormed.cost}

-- a tree is well formed and within the limits, and the report counts it
pub record Reports (q : Question) (b : List ℕ) (r : Report) : Type 0 where
  pub found : Tree
  pub well_formed : IsWellFormed q b found
  pub within : IsWithin q b found
  pub tables : r.tables ≡ size found
  pub depth : r.depth ≡ depth found
  pub reads : r.reads ≡ cost q b found

-- no tree is well formed and within the limits
abbrev pub HasNone : Question → List ℕ → Type 0
HasNone q b = (y : Tree) → IsWellFormed q b y → IsWithin q b y → ⊥
