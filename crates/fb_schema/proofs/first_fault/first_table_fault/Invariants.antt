use Rattle.std.proofs.Common.{◌≡◌, ◌<◌, ℕ, map, None}
use Rattle.fb_schema.specs.{FlatRows.borrowed_rows, Rows.field_of, Demands.first_code, Demands.table_asked}
use Rattle.fb_schema.proofs.first_fault.first_table_fault.Given as goal

abbrev pub invariant-loop-p : goal.invariant-loop-p
invariant-loop-p l = (q : ℕ) → q < l.p → first_code (table_asked (borrowed_rows l.rows) (map field_of l.fields) q) ≡ None
