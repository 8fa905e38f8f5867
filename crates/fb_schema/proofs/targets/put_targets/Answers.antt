use Rattle.std.proofs.Common.{ℕ, ◌≤◌, map, sym, ap, arith}
use Rattle.fb_schema.specs.{FlatRows.borrowed_rows, Rows.member_of_row, Targets.target_of, Targets.kind_among}
use Rattle.fb_schema.proofs.TargetLemmas.{zero_target, found_below, lead_on, none_beyond}
use Rattle.fb_schema.proofs.targets.put_targets.Goals as goal

pub loop-value-init : goal.loop-value-init
loop-value-init g c =
    let rows = borrowed_rows c.args.rows.now in
    record {
      lead = λ members h. c.in_ok-put_none.ensures (λ v. target_of rows (kind_among rows (map member_of_row members) v)) (sym (zero_target rows (map member_of_row members)));
    }

pub loop-value-preserved : goal.loop-value-preserved
loop-value-preserved g c =
    let rows = borrowed_rows c.args.rows.now in
    record {
      lead = λ members h. c.in_ok-add_target.ensures (λ v. target_of rows (kind_among rows (map member_of_row members) v)) (ap (target_of rows) (sym (c.kind_at-kind.ensures rows members h))) (c.loop-value.invariant.lead members h);
    }

pub returns : goal.returns
returns g c = λ members h.
    let rows = borrowed_rows c.args.rows.now in
    let wanted = λ (v : ℕ). target_of rows (kind_among rows (map member_of_row members) v) in
    let ends = c.end_of-value-end.ensures in
    let bound = c.loop-value.value in
    let last : c.end_of-value-end.result ≤ bound = omega arith in
    let high : bound ≤ 256 = omega (arith, ends.low, ends.high) in
    let all = lead_on wanted bound 256 _ _ high (λ v le lt. none_beyond rows members _ _ h _ ends v (omega (arith, le, last)) lt) (c.loop-value.invariant.lead members h) in
    record { at = λ value low. found_below wanted 256 _ _ all value low }
