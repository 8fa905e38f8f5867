use Rattle.std.proofs.Common.{◌≡◌, ◌+◌, ◌*◌, max, refl, ◌∙◌, ap, arith}
use Rattle.fb_rules.specs.{Cost.head_reads, Fields.to_table, Order.after, Order.lead_failure, Plain.tested_by, declared.offset_row.Row.Row}
use Rattle.fb_verify.specs.{Stack.IsAtTable, declared.stack.Walk.Walk}
use Rattle.fb_rules.proofs.{Budgets.fewer_reads, Few.head_few}
use Rattle.fb_verify.proofs.{Flats.at_flat, Flats.word_tells, RowTurns.two, RowTurns.stays, RowTurns.word_halts, Turns.at_child, Turns.down_falls}
use Rattle.fb_verify.proofs.stack.Walk.take_word.Goals as goal

pub returns-in-Some : goal.returns-in-Some
returns-in-Some g c =
    let w = c.args.self.now in
    let r = c.args.reads.now.count in
    let new = c.test_offset-failed.new in
    let top = record c.args.top.now { row = c.args.row } in
    let h = ((c.requires.0).in-row).walking in
    let more = ((c.requires.0).in-row).more in
    let checks = c.requires.1.1.1.1 in
    let e = c.test_offset-failed.ensures.tested in
    let told : tested_by new.at new.reads.count c.test_offset-failed.result ≡ after r (lead_failure w.checks c.args.reads.now.bytes (top.row).place (to_table c.args.object)) = rw checks at e.told in
    let word = word_tells w h c.args.object (c.requires.0).leads more new.reads.count new.at c.test_offset-failed.result told in
    rw c.stop.ensures.turn
    (word_halts (stays w c.args.reads.now g.under top h ((c.requires.0).in-row).short) new.reads _ _ c.stop.new.self c.args.waiting ((c.requires.0).in-row).many e.bytes more (rw c.in-Some.is at word)
    (ap (λ s. record { refusal = record { at = new.at; reason = c.in-Some.reason }; site = s }) c.site-site.ensures) (ap (λ (x : Row). record c.args.top.now { row = x }) c.advance_all.ensures) (ap (λ (x : Walk). x.halt) c.stop.ensures.halt))

pub returns : goal.returns
returns g c =
    let w = c.args.self.now in
    let r = c.args.reads.now.count in
    let b = c.args.reads.now.bytes in
    let new = c.test_offset-failed.new in
    let q = new.reads.count in
    let none = c.in_default.is in
    let top = record c.args.top.now { row = c.args.row } in
    let row = c.advance_all.new.self in
    let e = c.test_offset-failed.ensures.tested in
    let may = c.requires.1.0 in
    let paid : q ≡ r + 1 = e.counted none in
    let told : tested_by new.at q c.test_offset-failed.result ≡ after r (lead_failure w.checks b (top.row).place (to_table c.args.object)) = rw c.requires.1.1.1.1 at e.told in
    let at : IsAtTable w b q (g.under).start (g.under).frames top (r + 4 * (top.row).left) (record { object = c.args.object; at = new.at }) =
    at_flat w ((c.requires.0).in-row).walking c.args.object (c.requires.0).leads ((c.requires.0).in-row).more q new.at c.test_offset-failed.result told none (c.requires.0).table paid (c.test_offset-failed.ensures.value none) (c.test_offset-failed.ensures.near none) in
    let counted : c.count_table.new.self ≡ record w { tables = w.tables + 1; deepest = max w.deepest (c.args.waiting + 1 + 1) } = c.count_table.ensures ∙ ap (λ n. record w { tables = w.tables + 1; deepest = max w.deepest n }) (two c.args.waiting) in
    record {
      same = rw counted refl;
      down = rw e.bytes (at_child new.reads.base at (c.args.waiting + 1) (omega (arith, ((c.requires.0).in-row).many)) row c.advance_all.ensures may.fewer may.deep (omega (arith, may.low))
          (fewer_reads (w.limits).reads (q + head_reads w.checks) (r + 4) (omega (arith, paid, head_few w.checks)) c.requires.1.1.0) c.count_table.new.self counted);
      deep = omega (arith, may.deep, ((c.requires.0).in-row).many);
      falls = rw (ap (λ (x : Walk). x.tables) counted) (down_falls r at row c.advance_all.ensures may.fewer);
      grows = omega (arith, paid);
      bytes = e.bytes;
      short = omega (arith, paid, c.requires.1.1.1.0);
    }
