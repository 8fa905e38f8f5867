use Rattle.std.proofs.Common.{take}
use Rattle.fb_schema.specs.{FlatRows.borrowed_rows, Index.IsLiveIndex}
use Rattle.fb_schema.proofs.index.LiveIndex.fill.Given as goal

abbrev pub invariant-loop-n : goal.invariant-loop-n
invariant-loop-n g l = IsLiveIndex (borrowed_rows l.rows) (take l.n (borrowed_rows l.rows).objects) l.self
