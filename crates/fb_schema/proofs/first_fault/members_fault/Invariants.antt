use Rattle.std.proofs.Common.{◌≡◌, ◌<◌, ℕ, map, None}
use Rattle.fb_schema.specs.{FlatRows.borrowed_rows, Rows.member_of_row, Demands.first_code, Demands.members_asked}
use Rattle.fb_schema.proofs.first_fault.members_fault.Given as goal

abbrev pub invariant-loop-p : goal.invariant-loop-p
invariant-loop-p g l = (q : ℕ) → q < l.p → first_code (members_asked (borrowed_rows l.rows) (map member_of_row l.members) q) ≡ None
