-- What is asked of a buffer.
use Rattle.std.specs.Prelude.{ℕ}
use Rattle.fb_schema.specs.Rows.{Rows}
use Rattle.fb_rules.specs.{declared.checks.Checks.Checks, declared.start.Start.Start, declared.start.Ident.Ident, Bounds.Bounds}

-- whether it unfolds by these rows from a root table of this object, how it begins, within which limits, and what is
-- checked
pub record Question : Type 0 where
  pub rows : Rows
  pub root : ℕ
  pub start : Start
  pub ident : Ident
  pub limits : Bounds
  pub checks : Checks

-- the same of its parts
abbrev pub question : Rows → ℕ → Start → Ident → Bounds → Checks → Question
question S root start ident L c = record { rows = S; root = root; start = start; ident = ident; limits = L; checks = c }
