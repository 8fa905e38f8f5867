use Rattle.std.proofs.Common.{◌≤◌, length, take_all, subst, arith}
use Rattle.std.proofs.lemmas.List.{length-map}
use Rattle.fb_schema.specs.{FlatRows.borrowed_rows, Index.IsLiveIndex}
use Rattle.fb_schema.proofs.index.LiveIndex.fill.Goals as goal

pub returns : goal.returns
returns g c =
    let rows = borrowed_rows c.args.rows.now in
    let past : length rows.objects ≤ c.loop-n.n = rw length-map (omega arith) in
    subst (λ os. IsLiveIndex rows os c.loop-n.self) (take_all c.loop-n.n rows.objects past) c.loop-n.invariant
