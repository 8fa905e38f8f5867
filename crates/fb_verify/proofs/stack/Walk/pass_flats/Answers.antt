use Rattle.std.proofs.Common.{◌≡◌, ℕ, zero, suc, ◌<◌, ◌≤◌, ◌^◌, ◌+◌, ◌-◌, ◌*◌, max, length, refl, sym, ◌∙◌, ap, subst, arith}
use Rattle.fb_schema.specs.{Live.live_fields, Steps.step_of}
use Rattle.fb_rules.specs.{Bounds.AreAllowed, Fields.to_table, Order.after, Order.lead_failure, OffsetRows.leads_after, Plain.tested_by, declared.offset_row.Row.Row}
use Rattle.fb_rules.specs.declared.offset_row.{Leads.Leads, Leads.TheVariants.All, Referent.TheVariants.Table as ATable}
use Rattle.fb_verify.specs.{Turns.GoesOn, Turns.with_tables, declared.stack.Walk.Walk, declared.flat.Extent.Extent}
use Rattle.fb_verify.specs.declared.flat.Extent.TheVariants.{Whole, Part}
use Rattle.fb_rules.proofs.{Budgets.fewer_reads, Plains.small_steps}
use Rattle.fb_verify.proofs.{Flats.at_flat, Flats.word_tells, Frames.length_map}
use Rattle.fb_verify.proofs.RowTurns.{two, Counts, flat_comes, table_passed, table_halts, word_halts, word_stands, fewer_left, next_stands, none_with, one_with, stays}
use Rattle.fb_verify.proofs.stack.Walk.pass_flats.Goals.{After-follow-failed, After-advance_all}
use Rattle.fb_verify.proofs.stack.Walk.pass_flats.Goals as goal

pub returns-then-not-stands : goal.returns-then-not-stands
returns-then-not-stands g c child = let r = ((c.requires.0).down).row in stays c.args.self.now c.args.reads.now g.under c.args.top.now r.walking r.short

-- the walk, with the tables that were passed
abbrev walk : (g : _) → After-follow-failed g → Walk
walk g c = with_tables c.args.self.now (c.args.waiting + 2) ((c.args.top.now.row).left - (c.loop-schema.row).left)

leads : (g : _) (c : After-follow-failed g) → (c.loop-schema.row).leads ≡ All (ATable c.args.object)
leads g c = (c.loop-schema.invariant).leads ∙ (c.requires.0).leads

more : (g : _) (c : After-follow-failed g) → 0 < (c.loop-schema.row).left
more g c = c.has_next.ensures.more c.loop-schema-test.true

-- what the test of its first word tells
told : (g : _) (c : After-follow-failed g)
    → tested_by c.follow-failed.new.at c.follow-failed.new.reads.count c.follow-failed.result ≡ after c.loop-schema.reads.count (lead_failure c.args.self.now.checks c.loop-schema.reads.bytes (c.loop-schema.row).place (to_table c.args.object))
told g c = rw c.requires.1.0 at (c.follow-failed.ensures.tested).told

pub returns-in-Some : goal.returns-in-Some
returns-in-Some g c child =
    let d = (goal.at.returns-in-Some g c).After-follow-failed in
    let i = c.loop-schema.invariant in
    let new = c.follow-failed.new in
    let word = word_tells (walk g d) (i.on).walking c.args.object (leads g d) (more g d) new.reads.count new.at c.follow-failed.result (told g d) in
    rw c.stop.ensures.turn
    (word_halts i.on new.reads c.stop_at_word-stop.new.top c.stop_at_word-stop.result c.stop.new.self c.args.waiting (((c.requires.0).down).row).many (c.follow-failed.ensures.tested).bytes (more g d) (rw c.in-Some.is at word)
    (rw i.top at c.stop_at_word-stop.ensures.stop) (rw i.top at c.stop_at_word-stop.ensures.past) (ap (λ (x : Walk). x.halt) c.stop.ensures.halt))

paid : (g : _) (c : After-advance_all g) → c.follow-failed.new.reads.count ≡ c.loop-schema.reads.count + 1
paid g c = (c.follow-failed.ensures.tested).counted c.in_default.is

-- so many tables are passed then
one_more : (g : _) (c : After-advance_all g) → (c.args.top.now.row).left - (c.advance_all.new.self).left ≡ (c.args.top.now.row).left - (c.loop-schema.row).left + 1
one_more g c = omega (arith, (c.loop-schema.invariant).fewer, more g (goal.at.After-advance_all g c).After-follow-failed, ap (λ (x : Row). x.left) c.advance_all.ensures)

-- the limits allow the table, whatever it costs

either : {A : Type 0} (extent : Extent) → (extent ≡ Whole → A) → (extent ≡ Part → A) → A
either Whole f g = f refl
either Part f g = g refl

-- one word less, and what it costs
split : (left cost : ℕ) → 0 < left → (left - 1) * cost + cost ≡ left * cost
split zero cost h = absurd (omega arith)
split (suc n) cost h = let e : suc n - 1 ≡ n = omega arith in rw e (suc_times n cost) where
  suc_times : (n k : ℕ) → n * k + k ≡ suc n * k
  suc_times n k = omega arith

long : (g : _) (c : After-follow-failed g) → length c.steps_of-steps.result.now ≡ length (live_fields c.args.self.now.schema.now c.args.object)
long g c = ap length c.steps_of-steps.ensures.value ∙ length_map step_of (live_fields c.args.self.now.schema.now c.args.object)

room : (g : _) (c : After-follow-failed g) → AreAllowed (c.args.self.now.limits).reads (c.loop-schema.reads.count + (8 + 6 * length c.steps_of-steps.result.now)) × (c.loop-schema.reads.count + (8 + 6 * length c.steps_of-steps.result.now) ≤ 2 ^ 56)
room g c =
    either c.args.extent
    (λ e.
    let fits = c.requires.1.1.1 e in
    let cost = split (c.loop-schema.row).left (8 + 6 * length (live_fields c.args.self.now.schema.now c.args.object)) (more g c) in
    let less : c.loop-schema.reads.count + (8 + 6 * length c.steps_of-steps.result.now) ≤ c.args.reads.now.count + (c.args.top.now.row).left * (8 + 6 * length (live_fields c.args.self.now.schema.now c.args.object)) = within (((c.loop-schema.row).left - 1) * (8 + 6 * length (live_fields c.args.self.now.schema.now c.args.object))) c.loop-schema.reads.count (long g c) cost (c.loop-schema.invariant).paid in
    (fewer_reads (c.args.self.now.limits).reads _ _ less fits.reads, omega (arith, less, fits.short)))
    (λ e. c.brim_for-brim.ensures c.loop-schema.reads.count (c.has_next.ensures.allowed c.loop-schema-test.true e).1) where
      within : (rest m : ℕ) {n k left all : ℕ} → n ≡ k → rest + (8 + 6 * k) ≡ left → m + left ≤ all → m + (8 + 6 * n) ≤ all
      within rest m same e h = omega arith

fewer : (g : _) (c : After-follow-failed g) → c.args.self.now.tables + ((c.args.top.now.row).left - (c.loop-schema.row).left) < (c.args.self.now.limits).tables
fewer g c =
    let i = c.loop-schema.invariant in
    either c.args.extent (λ e. omega (arith, (c.requires.1.1.1 e).tables, i.fewer, more g c))
    (λ e. omega (arith, c.saturating_sub-rest.ensures, c.tables_of.ensures, (c.has_next.ensures.allowed c.loop-schema-test.true e).0, i.fewer, ((((c.requires.0).down).row).walking).tables))

-- where its word holds, the table is counted
counts : (g : _) (c : After-advance_all g)
    → Counts c.args.self.now (walk g (goal.at.After-advance_all g c).After-follow-failed) (with_tables c.args.self.now (c.args.waiting + 2) ((c.args.top.now.row).left - (c.advance_all.new.self).left)) c.args.reads.now c.loop-schema.reads c.follow-failed.new.reads g.under c.args.top.now
    (record c.args.top.now { row = c.loop-schema.row }) c.advance_all.new.self (record { object = c.args.object; at = c.follow-failed.new.at }) (c.args.waiting + 1)
counts g c =
    let d = (goal.at.After-advance_all g c).After-follow-failed in
    let i = c.loop-schema.invariant in
    let w = walk g d in
    let e = c.follow-failed.ensures in
    let new = c.follow-failed.new in
    let none = c.in_default.is in
    let at = at_flat w (i.on).walking c.args.object (leads g d) (more g d) new.reads.count new.at c.follow-failed.result (told g d) none (c.requires.0).table (paid g c) (e.value none) (e.near none) in
    record {
      on = i.on;
      kept = (e.tested).bytes;
      grows = omega (arith, paid g c);
      at = rw (e.tested).bytes at;
      word = c.advance_all.ensures;
      many = omega (arith, (((c.requires.0).down).row).many);
      fewer = fewer g d;
      deep = ((c.requires.0).down).deep;
      low = ((c.requires.0).down).low;
      cheap = fewer_reads (c.args.self.now.limits).reads (new.reads.count + 3) _ (omega (arith, paid g c)) (room g d).0;
      is = one_with c.args.self.now (c.args.waiting + 2) _ _ (one_more g c) ∙ ap (λ n. record w { tables = w.tables + 1; deepest = max w.deepest n }) (two c.args.waiting);
    }

pub pass_alike-came-requires : goal.pass_alike-came-requires
pass_alike-came-requires g c =
    let d = (goal.at.pass_alike-came-requires g c).After-advance_all in
    let i = c.loop-schema.invariant in
    let steps = c.steps_of-steps.ensures in
    let e = (c.follow-failed.ensures).tested in (
      rw (i.self, i.top, sym (((c.requires.0).down).row).many) (flat_comes (counts g d) c.requires.1.0 refl steps.value steps.few (c.requires.0).plain (room g (goal.at.After-advance_all g d).After-follow-failed).0 (omega (arith, paid g d)) (room g (goal.at.After-advance_all g d).After-follow-failed).1),
      rw (e.bytes, steps.value) i.kept,
    )

pub returns-in-Some-came : goal.returns-in-Some-came
returns-in-Some-came g c child =
    let d = (goal.at.returns-in-Some-came g c).After-advance_all in
    let i = c.loop-schema.invariant in
    let e = c.stop_in_flat.ensures in
    let came = c.pass_alike-came.new in
    let passes = rw (i.self, i.top, sym (((c.requires.0).down).row).many, c.in-Some-came.is) at c.pass_alike-came.ensures.passes in
    rw (e.turn, i.top) (table_halts (counts g d) came.next came.at c.in-Some-came.reason came.reads c.stop_in_flat.new.self passes e.links e.head (rw i.self at e.field))

pub loop-schema-preserved : goal.loop-schema-preserved
loop-schema-preserved g c =
    let d = (goal.at.loop-schema-preserved g c).After-advance_all in
    let e = (goal.at.After-advance_all g d).After-follow-failed in
    let i = c.loop-schema.invariant in
    let fs = live_fields c.args.self.now.schema.now c.args.object in
    let cost = 8 + 6 * length fs in
    let p = rw (i.self, i.top, sym (((c.requires.0).down).row).many) at c.pass_alike-came.ensures.passes in
    let none = c.in_default-came.is in
    let came = c.pass_alike-came.new in
    let stands = next_stands i.stands (more g e) c.advance_all.ensures in
    let bytes = p.bytes ∙ ((c.follow-failed.ensures).tested).bytes in
    record {
      self = i.self;
      top = i.top;
      on = table_passed (counts g d) came.next came.at came.reads (rw none at p) (omega (arith, p.paid none, paid g d, long g e, (room g e).1));
      fewer = omega (arith, i.fewer, ap (λ (x : Row). x.left) c.advance_all.ensures);
      stands = rw bytes stands;
      paid = rw (ap (λ (x : Row). x.left) c.advance_all.ensures) (omega (arith, split (c.loop-schema.row).left cost (more g e), p.paid none, paid g d, i.paid));
      leads = ap (λ (x : Row). x.leads) c.advance_all.ensures ∙ ap leads_after (leads g e) ∙ sym (c.requires.0).leads;
      kept = rw (sym p.bytes, c.steps_of-steps.ensures.value) at (c.pass_alike-came.ensures.kept none);
    }

pub loop-schema-init : goal.loop-schema-init
loop-schema-init g c =
    let r = ((c.requires.0).down).row in
    let zero : (c.args.top.now.row).left - (c.args.top.now.row).left ≡ 0 = omega arith in
    record {
      self = refl;
      top = refl;
      on = rw (none_with c.args.self.now (c.args.waiting + 2) _ zero)
          (subst (λ (x : Leads). GoesOn c.args.self.now c.args.self.now c.args.reads.now c.args.reads.now g.under c.args.top.now (record c.args.top.now { row = record c.args.top.now.row { leads = x } })) (c.requires.0).leads
          (stays c.args.self.now c.args.reads.now g.under c.args.top.now r.walking r.short));
      fewer = omega arith;
      stands = c.stands.ensures c.if-not-stands.false;
      paid = omega arith;
      leads = sym (c.requires.0).leads;
      kept = rw c.none-passed.ensures (record { small = λ e. small_steps (live_fields c.args.self.now.schema.now c.args.object) (c.requires.1.1.0 e); holds = λ h. absurd (omega (arith, h)) });
    }

-- On numbers.

pub follow-failed-requires-clause-stands : goal.follow-failed-requires-clause-stands
follow-failed-requires-clause-stands g c = word_stands (c.loop-schema.invariant).stands (c.has_next.ensures.more c.loop-schema-test.true)

pub loop-schema-smaller : goal.loop-schema-smaller
loop-schema-smaller g c = fewer_left _ _ c.advance_all.ensures (c.has_next.ensures.more c.loop-schema-test.true)

pub stop_at_word-stop-requires-clause-more : goal.stop_at_word-stop-requires-clause-more
stop_at_word-stop-requires-clause-more g c = c.has_next.ensures.more c.loop-schema-test.true

pub advance_all-requires-clause-more : goal.advance_all-requires-clause-more
advance_all-requires-clause-more g c = c.has_next.ensures.more c.loop-schema-test.true

pub stop_in_flat-requires-clause-next : goal.stop_in_flat-requires-clause-next
stop_in_flat-requires-clause-next g c = c.in-Some-came.ensures.passes.within
