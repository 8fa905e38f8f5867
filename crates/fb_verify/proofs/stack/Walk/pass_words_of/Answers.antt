use Rattle.std.proofs.Common.{◌≡◌, ◌+◌, ◌*◌, refl, sym, ◌∙◌, ap, subst, arith}
use Rattle.fb_rules.specs.{Cost.lead_reads, Fields.Entry, Order.after, Order.element_failure, Plain.tested_by}
use Rattle.fb_rules.specs.{OffsetRows.lead_to, OffsetRows.first_word, OffsetRows.past_first, OffsetRows.leads_after, OffsetRows.IsLeafLead, declared.offset_row.Row.Row}
use Rattle.fb_rules.proofs.{Budgets.fewer_reads, Chains.after_none, Few.first_few}
use Rattle.fb_verify.proofs.{RowTurns.word_passed, RowTurns.word_stands, RowTurns.next_stands, Walking.leaf_passed, Flats.all_lead, Flats.all_free, Flats.all_told, Flats.word_fails}
use Rattle.fb_verify.proofs.stack.Walk.pass_words_of.Goals.{After-test_lead-failed}
use Rattle.fb_verify.proofs.stack.Walk.pass_words_of.Goals as goal

-- the first word of that row
abbrev first : (g : _) → After-test_lead-failed g → Entry
first g c = first_word c.loop-row.reads.bytes c.args.self.now.schema.now c.loop-row.row

-- the word leads to what all refer to
lead : (g : _) (c : After-test_lead-failed g) → lead_to c.args.referent ≡ (first g c).lead
lead g c = let i = c.loop-row.invariant in all_lead i.on.walking c.args.referent i.leads

-- what its test tells
told : (g : _) (c : After-test_lead-failed g)
    → tested_by c.test_lead-failed.new.at c.test_lead-failed.new.reads.count c.test_lead-failed.result ≡ after c.loop-row.reads.count (element_failure c.args.self.now.checks c.loop-row.reads.bytes (first g c))
told g c =
    let i = c.loop-row.invariant in
    all_told i.on.walking c.args.referent i.leads _ (rw c.requires.1.1.1.1.1.0 at c.test_lead-failed.ensures.told)

pub returns-in-Some-clause-err : goal.returns-in-Some-clause-err
returns-in-Some-clause-err g c =
    let d = (goal.at.returns-in-Some-clause-err g c).After-test_lead-failed in
    let i = c.loop-row.invariant in
    let new = c.test_lead-failed.new in
    let r = c.loop-row.reads.count in
    rw (c.stop_at_word.ensures.past, i.same) (rw i.on.bytes at
    (word_fails i.on.walking (past_first c.loop-row.row) refl c.loop-row-test.true (record { at = new.at; reason = c.in-Some.reason }) r new.reads.count refl
    (sym (told g d) ∙ ap (tested_by new.at new.reads.count) c.in-Some.is) c.stop_at_word.result (rw i.same at c.stop_at_word.ensures.stop)))

pub loop-row-preserved : goal.loop-row-preserved
loop-row-preserved g c =
    let d = (goal.at.loop-row-preserved g c).After-test_lead-failed in
    let i = c.loop-row.invariant in
    let w = c.args.self.now in
    let b = c.loop-row.reads.bytes in
    let none = c.in_default.is in
    let q = c.test_lead-failed.new.reads.count in
    let r = c.loop-row.reads.count in
    let free = all_free i.on.walking c.args.referent i.leads in
    let cost : q ≡ r + (first g d).reads + lead_reads (first g d).lead = omega (arith, c.test_lead-failed.ensures.counted none, ap lead_reads (lead g d), free) in
    let few = first_few b w.schema.now c.loop-row.row in
    let more = c.loop-row-test.true in
    let row = c.advance_all.ensures in
    let left = ap (λ (x : Row). x.left) row in
    let kept = c.test_lead-failed.ensures.bytes in
    let holds = (after_none r (element_failure w.checks b (first g d))).0 (sym (told g d) ∙ ap (tested_by c.test_lead-failed.new.at q) none) in
    let leaf = subst (λ x. IsLeafLead x) (lead g d) c.requires.1.1.1.1.0 in
    let cheap = fewer_reads (w.limits).reads q (c.args.reads.now.count + 4 * (c.args.top.now.row).left) (omega (arith, cost, few, i.paid, more)) c.requires.1.0 in
    record {
      on = word_passed i.on _ c.test_lead-failed.new.reads (rw kept (leaf_passed i.on.walking c.advance_all.new.self q row more holds cost leaf cheap)) refl
          (omega (arith, cost, few, more, left)) (omega (arith, left)) (omega (arith, cost)) kept (omega (arith, cost, few, i.paid, more, c.requires.1.1.0));
      same = i.same;
      leads = ap (λ (x : Row). x.leads) row ∙ ap leads_after i.leads;
      stands = rw kept (next_stands i.stands more row);
      paid = omega (arith, cost, few, i.paid, more, left);
    }

pub test_lead-failed-requires-clause-stands : goal.test_lead-failed-requires-clause-stands
test_lead-failed-requires-clause-stands g c = λ _. word_stands (c.loop-row.invariant).stands c.loop-row-test.true

pub returns-clause-rests : goal.returns-clause-rests
returns-clause-rests g c =
    let i = c.loop-row.invariant in
    rw i.same (record { on = i.on; rests = omega (arith, c.loop-row-test.false); next = refl })
