-- A buffer that was verified, as contracts see it.
use Rattle.std.specs.Prelude.{◌≡◌, ℕ, ◌<◌, ◌^◌, List, length, IsTrue}
use Rattle.fb_schema.specs.Rows.{Rows, is_table}
use Rattle.fb_rules.specs.{Bounds.Bounds, Question.Question, Question.question, Tree.Tree, Tree.size, Tree.depth, WellFormed.IsWellFormed, WellFormed.cost, declared.checks.Checks.Checks}
use Rattle.fb_rules.specs.declared.{start.Start.Start, start.Ident.Ident, fault.Report.Report}

-- the bytes, the rows of the schema, and what was asked and answered
pub record Sealed : Type 0 where
  pub bytes : List ℕ
  pub schema : Rows
  pub root : ℕ
  pub start : Start
  pub checks : Checks
  pub report : Report

-- what was asked, with an identifier and limits
abbrev pub asked_of : Sealed → Ident → Bounds → Question
asked_of v ident L = question v.schema v.root v.start ident L v.checks

-- a buffer that was verified by this question
abbrev pub sealed_by : Question → List ℕ → Report → Sealed
sealed_by q b r = record { bytes = b; schema = q.rows; root = q.root; start = q.start; checks = q.checks; report = r }

-- the bytes, of which there are fewer than 2^31, unfold by the schema from the root, which is a table, into a tree that
-- the report counts: its tables, its depth, and its reads with those of the start, of which an identifier that was
-- asked for is one
pub record IsUnfolded (v : Sealed) : Type 0 where
  pub short : length v.bytes < 2 ^ 31
  pub root_is_table : IsTrue (is_table v.schema v.root)
  pub ident : Ident
  pub limits : Bounds
  pub found : Tree
  pub well_formed : IsWellFormed (asked_of v ident limits) v.bytes found
  pub tables : (v.report).tables ≡ size found
  pub depth : (v.report).depth ≡ depth found
  pub reads : (v.report).reads ≡ cost (asked_of v ident limits) v.bytes found
