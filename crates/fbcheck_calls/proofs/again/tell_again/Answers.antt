use Rattle.std.proofs.Common.{◌<◌, length, arith}
use Rattle.fbcheck_calls.proofs.{AgainLemmas.end_told, AgainLemmas.none_stuck, AgainLemmas.root_is_other, AgainLemmas.told_at, EachLemmas.filled_all, EachLemmas.filled_on, EachLemmas.none_filled}
use Rattle.fbcheck_calls.proofs.again.tell_again.Goals as goal

pub returns-then-count-eq0 : goal.returns-then-count-eq0
returns-then-count-eq0 c = filled_all _ _ _ _ _ (omega arith) (λ k lt inside. omega arith) (none_filled _ _)

pub loop-place-preserved : goal.loop-place-preserved
loop-place-preserved c =
    let there : c.loop-place.place < length c.args.paths.now = omega arith in
    let within : c.loop-place.place < length c.loop-place.values = omega arith in
    let found = end_told _ _ _ _ _ _ _ c.in-Ok.ensures.0 (rw c.in-Ok-Some.field-0-is at c.in-Ok-Some.ensures) in
    record { told = filled_on _ _ _ _ _ within c.loop-place.invariant.told (λ p. told_at _ _ _ _ _ _ p _ _ _ there c.in-Some.ensures found) }

pub unreachable-requires-in-Ok-None : goal.unreachable-requires-in-Ok-None
unreachable-requires-in-Ok-None c =
    let there : c.loop-place.place < length c.args.paths.now = omega arith in
    none_stuck _ _ _ _ _ _ _ _ _ c.in-Ok.ensures.0 there c.in-Some.ensures c.requires.fit (rw c.in-Ok-None.field-0-is at c.in-Ok-None.ensures)

pub returns-in-Err : goal.returns-in-Err
returns-in-Err c = (omega arith, c.loop-place.invariant.told, root_is_other _ _ _ _ _ c.in-Ok.ensures.0 c.in-Err.ensures)

pub returns : goal.returns
returns c =
    let long = c.loop-place.invariant.told.long in
    filled_all _ _ _ _ _ (omega arith) (λ k lt inside. omega arith) c.loop-place.invariant.told
