use Rattle.std.proofs.Common.{take}
use Rattle.fb_schema.specs.{FlatRows.borrowed_rows, Index.IsMemberIndex}
use Rattle.fb_schema.proofs.index.MemberIndex.fill.Given as goal

abbrev pub invariant-loop-n : goal.invariant-loop-n
invariant-loop-n g l = IsMemberIndex (borrowed_rows l.rows) l.rows.members.now (take l.n l.rows.enums.now) l.self
