use Rattle.std.proofs.Common.{◌≡◌, ◌<◌, ℕ, map, None}
use Rattle.fb_schema.specs.{FlatRows.borrowed_rows, Rows.field_of, Demands.first_code, Demands.struct_asked}
use Rattle.fb_schema.proofs.first_fault.struct_fields_fault.Given as goal

abbrev pub invariant-loop-p : goal.invariant-loop-p
invariant-loop-p g l = (q : ℕ) → q < l.p → first_code (struct_asked (borrowed_rows l.rows) l.object.bytesize (map field_of l.fields) q) ≡ None
