use Rattle.std.proofs.Common.{◌≡◌, map, take}
use Rattle.fb_schema.specs.{Kinds.kind_of, FlatRows.borrowed_rows, Rows.member_of_row}
use Rattle.fb_schema.proofs.indexing.member_kinds.Given as goal

abbrev pub invariant-loop-member : goal.invariant-loop-member
invariant-loop-member g l = l.kinds.items ≡ map (λ m. kind_of (borrowed_rows l.rows) (member_of_row m).ty) (take l.member-index l.members)
