-- A whole buffer: its start and its tree.
use Rattle.std.specs.Prelude.{◌≡◌, ℕ, ◌+◌, ◌≤◌, List, length}
use Rattle.fb_bytes.specs.Word.{word}
use Rattle.fb_rules.specs.declared.{checks.Checks.Checks, start.Start.Start, start.Start.TheVariants.Bare, start.Start.TheVariants.Prefixed, start.Ident.Ident}
use Rattle.fb_rules.specs.{declared.start.Ident.TheVariants.Any, declared.start.Ident.TheVariants.Want, Bounds.AreAllowed, Question.Question, Places.target, Facts.IsOffset}
use Rattle.fb_rules.specs.{Tree.Tree, Tree.size, Tree.depth, Unfolds.Unfolds, Cost.tree_cost}

-- where the root offset stands
abbrev pub base : Start → ℕ
base Bare = 0
base Prefixed = 4

-- a prefix counts the bytes after it
abbrev pub IsPrefixed : List ℕ → Start → Type 0
IsPrefixed b Bare = Unit {0}
IsPrefixed b Prefixed = (4 ≤ length b) × (word b 0 4 + 4 ≡ length b)

-- a wanted identifier stands at p
abbrev pub IsIdentified : List ℕ → ℕ → Ident → Type 0
IsIdentified b p Any = Unit {0}
IsIdentified b p (Want name) = (p + 4 ≤ length b) × (word b p 4 ≡ word name 0 4)

-- the buffer begins as it should
pub record IsStart (c : Checks) (b : List ℕ) (start : Start) (ident : Ident) : Type 0 where
  pub prefixed : IsPrefixed b start
  pub identified : IsIdentified b (base start + 4) ident
  pub offset : IsOffset c b (base start)

-- the buffer begins as it should, and unfolds into this tree from its root offset
pub record IsWellFormed (q : Question) (b : List ℕ) (y : Tree) : Type 0 where
  pub starts : IsStart q.checks b q.start q.ident
  pub unfolds : Unfolds y q.checks b q.rows q.root (target b (base q.start))

abbrev pub prefix_reads : Start → ℕ
prefix_reads Bare = 0
prefix_reads Prefixed = 1

abbrev pub ident_reads : Ident → ℕ
ident_reads Any = 0
ident_reads (Want name) = 1

-- a prefix, a wanted identifier, and the root offset
abbrev pub start_reads : Start → Ident → ℕ
start_reads start ident = prefix_reads start + ident_reads ident + 1

-- all counted reads of a buffer that unfolds into this tree
abbrev pub cost : Question → List ℕ → Tree → ℕ
cost q b y = start_reads q.start q.ident + tree_cost y q.checks b q.rows

-- the tree has no more tables and no longer chains than the limits say, and costs no more reads
pub record IsWithin (q : Question) (b : List ℕ) (y : Tree) : Type 0 where
  pub tables : size y ≤ (q.limits).tables
  pub depth : depth y ≤ (q.limits).depth
  pub reads : AreAllowed (q.limits).reads (cost q b y)
