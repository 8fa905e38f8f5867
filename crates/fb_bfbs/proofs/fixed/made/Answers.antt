use Rattle.std.proofs.Common.{sym}
use Rattle.std.proofs.lemmas.List.{map_push, map_more}
use Rattle.fb_schema.specs.Rows.{object_of}
use Rattle.fb_bfbs.proofs.fixed.made.Goals as goal

pub loop-name-preserved : goal.loop-name-preserved
loop-name-preserved c =
    rw (c.in_ok-push.ensures.items, map_push object_of c.loop-name.rows.items c.in_ok-table.field-0, c.loop-name.invariant, c.in_ok-table.ensures.row) (sym (map_more _ c.args.tables.now c.loop-name.name-index _ c.loop-name-test.true))
