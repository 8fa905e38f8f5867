use Rattle.std.proofs.Common.{ℕ, List, map, None, ◌≡◌, ◌≤◌, ◌+◌, max, length, refl, sym, ◌∙◌, ap, subst, arith}
use Rattle.fb_schema.specs.{Rows.Rows, Live.live_fields, Live.widest, Steps.step_of, declared.views.Step.Step}
use Rattle.fb_schema.proofs.LookLemmas.{within_widest}
use Rattle.fb_rules.specs.{Cost.lead_reads, Fields.Entry, Order.after, Order.element_failure, Plain.tested_by}
use Rattle.fb_rules.specs.{OffsetRows.lead_to, OffsetRows.first_word, OffsetRows.IsReferent, OffsetRows.IsLeafLead, declared.offset_row.Row.Row}
use Rattle.fb_verify.specs.{Turns.GoesOn, declared.stack.Walk.Walk}
use Rattle.fb_rules.proofs.{Budgets.fewer_reads, Chains.after_none, Few.first_few}
use Rattle.fb_verify.proofs.{Frames.length_map, Flats.word_told, Flats.is_leaf, Walking.leaf_passed}
use Rattle.fb_verify.proofs.RowTurns.{stays, two, Counts, word_passed, flat_comes, goes_down, table_passed, table_halts, word_halts}
use Rattle.fb_verify.proofs.stack.Walk.pass_member.Goals.{After-test_lead-failed, After-count_table}
use Rattle.fb_verify.proofs.stack.Walk.pass_member.Goals as goal

-- the first word of the row
abbrev first : (g : _) → After-test_lead-failed g → Entry
first g c = first_word c.args.reads.now.bytes c.args.self.now.schema.now c.args.row.now

-- the walk is before it
on : (g : _) (c : After-test_lead-failed g) → GoesOn c.args.self.now c.args.self.now c.args.reads.now c.args.reads.now g.under (record c.args.top.now { row = c.args.row.now }) (record c.args.top.now { row = c.args.row.now })
on g c =
    let r = (c.requires.0).in-row in
    stays c.args.self.now c.args.reads.now g.under _ r.walking r.short

-- its type was read
typed : (g : _) (c : After-test_lead-failed g) → c.first_referent-referent.new.reads.count ≡ c.args.reads.now.count + (first g c).reads
typed g c = ap (λ x. x.count) c.first_referent-referent.ensures.counted

-- what the test of the word tells
told : (g : _) (c : After-test_lead-failed g)
    → tested_by c.test_lead-failed.new.at c.test_lead-failed.new.reads.count c.test_lead-failed.result ≡ after c.args.reads.now.count (element_failure c.args.self.now.checks c.args.reads.now.bytes (first g c))
told g c =
    let r = c.args.reads.now.count in
    word_told c.args.self.now.checks c.args.reads.now.bytes c.args.self.now.schema.now c.args.row.now (lead_to c.first_referent-referent.result) c.first_referent-referent.ensures.lead
    r c.first_referent-referent.new.reads.count (typed g c) _ (rw (ap (λ x. x.bytes) c.first_referent-referent.ensures.counted, c.requires.1.1.1.1) at c.test_lead-failed.ensures.told)

-- where it tells nothing, the word holds, and was paid for, by few reads
passed : (g : _) (c : After-test_lead-failed g) → c.test_lead-failed.result ≡ None
    → (element_failure c.args.self.now.checks c.args.reads.now.bytes (first g c) ≡ None) × (c.test_lead-failed.new.reads.count ≡ c.args.reads.now.count + (first g c).reads + lead_reads (first g c).lead)
    × (c.test_lead-failed.new.reads.count ≤ c.args.reads.now.count + 4)
passed g c none =
    let r = c.args.reads.now.count in
    let holds = (after_none r (element_failure c.args.self.now.checks c.args.reads.now.bytes (first g c))).0 (sym (told g c) ∙ ap (tested_by c.test_lead-failed.new.at c.test_lead-failed.new.reads.count) none) in
    let paid : c.test_lead-failed.new.reads.count ≡ r + (first g c).reads + lead_reads (first g c).lead = omega (arith, c.test_lead-failed.ensures.counted none, ap lead_reads c.first_referent-referent.ensures.lead, typed g c) in
    (holds, paid, omega (arith, paid, first_few c.args.reads.now.bytes c.args.self.now.schema.now c.args.row.now))

-- the bytes stay the same
kept : (g : _) (c : After-test_lead-failed g) → c.test_lead-failed.new.reads.bytes ≡ c.args.reads.now.bytes
kept g c = c.test_lead-failed.ensures.bytes ∙ ap (λ x. x.bytes) c.first_referent-referent.ensures.counted

pub returns-in-Some : goal.returns-in-Some
returns-in-Some g c =
    let d = (goal.at.returns-in-Some g c).After-test_lead-failed in
    rw c.stop.ensures.turn
    (word_halts (on g d) c.test_lead-failed.new.reads c.stop_at_word-stop.new.top c.stop_at_word-stop.result c.stop.new.self c.args.waiting ((c.requires.0).in-row).many (kept g d) (((c.requires.0).in-row).more)
    (rw c.in-Some.is at (told g d)) c.stop_at_word-stop.ensures.stop c.stop_at_word-stop.ensures.past (ap (λ (x : Walk). x.halt) c.stop.ensures.halt))

-- a word that leads to a table is passed, and the table is counted
counts : (g : _) (c : After-count_table g)
    → Counts c.args.self.now c.args.self.now c.count_table.new.self c.args.reads.now c.args.reads.now c.test_lead-failed.new.reads g.under (record c.args.top.now { row = c.args.row.now }) (record c.args.top.now { row = c.args.row.now }) c.advance.new.self (record { object = c.in-Table.object; at = c.test_lead-failed.new.at }) (c.args.waiting + 1)
counts g c =
    let d = (goal.at.After-count_table g c).After-test_lead-failed in
    let w = c.args.self.now in
    let e = c.test_lead-failed.ensures in
    let none = c.in_default.is in
    let found = c.first_referent-referent.ensures in
    record {
      on = on g d;
      kept = kept g d;
      grows = omega (arith, (passed g d none).1);
      at = rw (kept g d)
          (record {
            before = c.args.reads.now.count;
            count = (passed g d none).1;
            walking = ((c.requires.0).in-row).walking;
            more = ((c.requires.0).in-row).more;
            holds = (passed g d none).0;
            leads = sym found.lead ∙ ap lead_to c.in-Table.is;
            table = subst (λ x. IsReferent w.schema.now x) c.in-Table.is found.referent;
            at = rw (ap (λ x. x.bytes) found.counted) at (e.value none c.in-Table.object c.in-Table.is);
            near = e.near none c.in-Table.object c.in-Table.is;
            paid = omega arith;
          });
      word = c.advance.ensures;
      many = omega (arith, ((c.requires.0).in-row).many);
      fewer = ((c.requires.0).limits).fewer;
      deep = ((c.requires.0).limits).deep;
      low = ((c.requires.0).limits).low;
      cheap = fewer_reads (c.args.self.now.limits).reads (c.test_lead-failed.new.reads.count + 3) (c.args.reads.now.count + 8) (omega (arith, (passed g d none).2)) (c.requires.0).allowed;
      is = c.count_table.ensures ∙ ap (λ n. record w { tables = w.tables + 1; deepest = max w.deepest n }) (two c.args.waiting);
    }

pub returns-then-not-is_plain : goal.returns-then-not-is_plain
returns-then-not-is_plain g c =
    let d = (goal.at.returns-then-not-is_plain g c).After-count_table in
    let e = (goal.at.returns-then-not-is_plain g c).After-test_lead-failed in
    goes_down (counts g d) (omega (arith, (passed g e c.in_default.is).2, (c.requires.0).short))

-- as many steps as fields, which are no more than those of the widest table
many : (S : Rows) (object : ℕ) {steps : List Step} → steps ≡ map step_of (live_fields S object) → (length steps ≡ length (live_fields S object)) × (length steps ≤ widest S)
many S object its = let long = ap length its ∙ length_map step_of (live_fields S object) in (long, omega (arith, long, within_widest S object))

pub pass_flat-came-requires : goal.pass_flat-came-requires
pass_flat-came-requires g c =
    let d = (goal.at.pass_flat-came-requires g c).After-count_table in
    let e = (goal.at.pass_flat-came-requires g c).After-test_lead-failed in
    let count = c.count.ensures.all (omega (arith, (passed g e c.in_default.is).2, (c.requires.0).short)) in
    let room = c.requires.1.0 c.test_lead-failed.new.reads.count (omega (arith, c.if-count-brim.false, count)) in
    let steps = c.steps_of-steps.ensures in
    flat_comes (counts g d) c.requires.1.1.1.1 refl steps.value steps.few (sym c.is_plain.ensures ∙ c.if-not-is_plain.false) room.0 (omega (arith, (many c.args.self.now.schema.now c.in-Table.object steps.value).1)) room.1

pub returns-in-Some-came : goal.returns-in-Some-came
returns-in-Some-came g c =
    let d = (goal.at.returns-in-Some-came g c).After-count_table in
    let e = c.stop_in_flat.ensures in
    let came = c.pass_flat-came.new in
    rw e.turn (table_halts (counts g d) came.next came.at c.in-Some-came.reason came.reads c.stop_in_flat.new.self (rw c.in-Some-came.is at c.pass_flat-came.ensures) e.links e.head e.field)

pub returns-in_default-came : goal.returns-in_default-came
returns-in_default-came g c =
    let d = (goal.at.returns-in_default-came g c).After-count_table in
    let e = (goal.at.returns-in_default-came g c).After-test_lead-failed in
    let count = c.count.ensures.all (omega (arith, (passed g e c.in_default.is).2, (c.requires.0).short)) in
    let room = c.requires.1.0 c.test_lead-failed.new.reads.count (omega (arith, c.if-count-brim.false, count)) in
    let p = c.pass_flat-came.ensures in
    let none = c.in_default-came.is in
    let came = c.pass_flat-came.new in
    let long = many c.args.self.now.schema.now c.in-Table.object c.steps_of-steps.ensures.value in
    let width = ap (λ (x : Walk). length (live_fields x.schema.now c.in-Table.object)) c.count_table.ensures in
    record {
      on = table_passed (counts g d) came.next came.at came.reads (rw none at p) (omega (arith, p.paid none, long.0, long.1, width, room.1));
      same = refl;
      word = c.advance.ensures;
    }

pub returns-in_default-referent : goal.returns-in_default-referent
returns-in_default-referent g c =
    let d = (goal.at.returns-in_default-referent g c).After-test_lead-failed in
    let i = on g d in
    let w = c.args.self.now in
    let none = c.in_default.is in
    let q = c.test_lead-failed.new.reads in
    let more = ((c.requires.0).in-row).more in
    let p = passed g d none in
    let left = ap (λ (x : Row). x.left) c.advance.ensures in
    let leaf = subst (λ x. IsLeafLead x) c.first_referent-referent.ensures.lead (is_leaf c.first_referent-referent.result (λ k e. c.in_default-referent.not-Table k e)) in
    let cheap = fewer_reads (w.limits).reads q.count (c.args.reads.now.count + 8) (omega (arith, p.2)) (c.requires.0).allowed in
    let over = leaf_passed i.walking c.advance.new.self q.count c.advance.ensures more p.0 p.1 leaf cheap in
    record {
      on = word_passed i _ q (rw (kept g d) over) refl (omega (arith, p.2, more, left)) (omega (arith, left)) (omega (arith, p.1)) (kept g d) (omega (arith, p.2, (c.requires.0).short));
      same = refl;
      word = c.advance.ensures;
    }

pub test_lead-failed-requires-clause-stands : goal.test_lead-failed-requires-clause-stands
test_lead-failed-requires-clause-stands g c = rw (ap (λ x. x.bytes) c.first_referent-referent.ensures.counted) c.requires.1.1.0

pub stop_in_flat-requires-clause-next : goal.stop_in_flat-requires-clause-next
stop_in_flat-requires-clause-next g c = c.in-Some-came.ensures.within
