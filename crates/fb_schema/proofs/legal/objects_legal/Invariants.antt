use Rattle.fb_schema.specs.FlatRows.{borrowed_rows}
use Rattle.fb_schema.proofs.DemandLaws.{AreClearBelow}
use Rattle.fb_schema.proofs.legal.objects_legal.Given as goal

abbrev pub invariant-loop-n : goal.invariant-loop-n
invariant-loop-n g l = AreClearBelow (borrowed_rows l.rows) 0 l.n
