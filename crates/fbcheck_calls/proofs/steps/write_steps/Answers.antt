use Rattle.std.proofs.Common.{◌<◌, length, arith}
use Rattle.fbcheck_calls.proofs.StepLemmas.{one_written}
use Rattle.fbcheck_calls.proofs.steps.write_steps.Goals as goal

pub loop-place-preserved : goal.loop-place-preserved
loop-place-preserved c =
    let w = c.loop-place.invariant.written in
    let within : c.loop-place.place < length c.args.path.now = omega arith in
    let there : c.loop-place.place < length c.args.room.now = omega arith in
    let e = c.of.ensures in
    record { written = one_written c.args.path.now c.args.room.now c.loop-place.room w.0 c.loop-place.place _ c.of.result (record { kind = 0; number = 0 }) within there w.1 w.2 e }
