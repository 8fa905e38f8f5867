use Rattle.std.proofs.Common.{◌≡◌, ◌+◌, ◌-◌, ◌<◌, map, length, sym, ◌∙◌, ap, arith, length-set}
use Rattle.std.proofs.lemmas.List.{length-map}
use Rattle.fb_schema.specs.Live.{live_of_view}
use Rattle.fb_schema.proofs.{Blank.blank_view, NextRequired.first_from, NextRequired.first_at_end, NextRequired.first_here, NextRequired.first_later, NextRequired.filled_more}
use Rattle.fb_schema.proofs.indexing.next_required.Goals as goal
use Rattle.fb_schema.proofs.indexing.next_required.Goals.{then-fields-i, else-fields-i}

pub returns : goal.returns
returns g c =
    let fields = c.args.fields.now in
    let i = c.loop-i.invariant in
    let long = length-map fields live_of_view in
    record { long = omega (arith, i.long, long); at = λ k lt. i.filled k (omega (arith, c.loop-i-test.false)) (omega (arith, long)) }

pub loop-i-init : goal.loop-i-init
loop-i-init g c =
    let fields = c.args.fields.now in
    let len = c.in_ok-places.ensures.len in
    record {
      long = omega (arith, len, c.in_ok-places.places.ok.0);
      next = first_at_end (map live_of_view fields) (length fields) (sym (length-map fields live_of_view));
      filled = λ k low high. absurd (omega arith);
    }

pub loop-i-preserved : goal.loop-i-preserved
loop-i-preserved g c =
    let fields = c.args.fields.now in
    let i = c.loop-i.invariant in
    let at = c.loop-i.i - 1 in
    let above : c.loop-i.i ≡ at + 1 = omega (arith, c.loop-i-test.true) in
    let lt : at < length fields = omega (arith, c.loop-i-test.true, c.loop-i.auto.i) in
    let next : c.if-fields-i.next ≡ first_from (map live_of_view fields) at = elim c.if-fields-i.branch [
      | then-fields-i w ↦ w.next-is ∙ first_here live_of_view fields at blank_view lt w.if-fields-i.true
      | else-fields-i w ↦ w.next-is ∙ i.next ∙ ap (first_from (map live_of_view fields)) above ∙ first_later live_of_view fields at blank_view lt w.if-fields-i.false
    ] in
    record {
      long = length-set c.loop-i.places.items at c.if-fields-i.next ∙ i.long;
      next = next;
      filled = filled_more (map live_of_view fields) c.loop-i.places.items at c.loop-i.i (length fields) c.if-fields-i.next above (omega (arith, i.long)) next i.filled;
    }
