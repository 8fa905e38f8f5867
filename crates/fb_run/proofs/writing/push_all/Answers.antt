use Rattle.std.proofs.{Common.rules, KnownBytes.Appends-trans, lemmas.List.take_rest}
use Rattle.fb_run.proofs.InPieces.{front-more}
use Rattle.fb_run.proofs.writing.push_all.Goals as goal

pub loop-sink-preserved : goal.loop-sink-preserved
loop-sink-preserved g c =
    let (front, whole, wrote) = c.loop-sink.invariant.bytes in
    let more = front-more c.args.text.now front c.loop-sink.rest.now _ c.in-Ok.taken whole (take_rest c.loop-sink.rest.now c.in-Ok.taken) in
    let all = Appends-trans _ _ _ _ _ wrote c.in-Ok.ensures.bytes in
    search rules
