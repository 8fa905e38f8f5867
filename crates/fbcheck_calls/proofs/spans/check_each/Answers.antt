use Rattle.std.proofs.Common.{◌∙◌, ◌<◌, length, arith}
use Rattle.std.proofs.lemmas.List.{get_or_default}
use Rattle.fbcheck_calls.specs.{Answered.levels, Spans.IsSpanTold}
use Rattle.fbcheck_calls.proofs.SpanLemmas.{one_more}
use Rattle.fbcheck_calls.proofs.spans.check_each.Goals as goal

pub loop-place-preserved : goal.loop-place-preserved
loop-place-preserved c =
    let within : c.loop-place.place < length c.loop-place.verdicts = omega arith in
    let there : c.loop-place.place < length c.args.spans.now = omega arith in
    record {
      kept = c.check_span.ensures.kept ∙ c.loop-place.invariant.kept;
      told = one_more (IsSpanTold c.args.held.now (levels c.args.handle.now.inside) c.args.options.now c.args.block.now) c.args.spans.now c.loop-place.verdicts c.loop-place.place c.check_span.new.verdict within c.loop-place.invariant.told (λ s.
          let same = get_or_default c.args.spans.now c.loop-place.place s (record { at = 0; size = 0 }) there in
          rw (same, ← c.loop-place.invariant.kept) c.check_span.ensures.told);
    }
