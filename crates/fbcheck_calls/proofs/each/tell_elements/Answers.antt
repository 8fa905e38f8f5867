use Rattle.std.proofs.Common.{◌<◌, length, arith}
use Rattle.fbcheck_calls.proofs.EachLemmas.{filled_on}
use Rattle.fbcheck_calls.proofs.each.tell_elements.Goals as goal

pub loop-place-preserved : goal.loop-place-preserved
loop-place-preserved c =
    let within : c.loop-place.place < length c.loop-place.values = omega arith in
    let found = rw c.in-Ok-Some.field-0-is at c.in-Ok-Some.ensures in
    record { told = filled_on _ _ _ _ _ within c.loop-place.invariant.told found }
