-- The walk goes into a field that may lead on, whose slot was the last read.
use Rattle.std.proofs.Common.{◌≡◌, ℕ, ◌+◌, ◌-◌, ◌<◌, ◌≤◌, nat_lt, List, [], refl, sym, ◌∙◌, ap, subst, arith, Option, Some, None}
use Rattle.std.proofs.lemmas.Bool.{lt-ltb}
use Rattle.fb_bytes.specs.Word.{Lent}
use Rattle.fb_schema.specs.{Rows.Rows, Live.Live}
use Rattle.fb_rules.specs.{Bounds.Bounds, Bounds.AreAllowed, Fields.row, Fields.entries_of, Fields.entries_at, Fields.entries, Plain.tested_by, Plain.IsTested, Stops.reads_failure}
use Rattle.fb_rules.specs.{Told.refused, Told.stopped, Cost.slot_reads, Cost.present_reads, Cost.reads_at, Cost.own_reads, OffsetRows.words_of, OffsetRows.IsRow, OffsetRows.IsAskable}
use Rattle.fb_rules.specs.{OffsetRows.LeavesRow, Order.Failure, Order.after, Order.present_failure, Order.failure_at, Order.own_failure, declared.checks.Checks.Checks}
use Rattle.fb_rules.specs.declared.{table.Child.Child, fault.Reason.Reason, offset_row.Row.Row, site.Refusal.Refusal, site.Site.Site, site.Stop.Stop}
use Rattle.fb_verify.specs.{StopsAt.IsStopAt, Stack.blank, Stack.frame_work, Stack.work, Stack.Waiting, Stack.IsUnderWay, Stack.IsStopped}
use Rattle.fb_verify.specs.{Turns.IsAtOpenField, Turns.GoesOn, Turns.StaysInField, Turns.PassedField, Turns.BeginsRow, Turns.RowTurned, Turns.FieldTurned, declared.scratch.Frame.Frame}
use Rattle.fb_verify.specs.declared.stack.{Turn.Turn, Walk.Walk, Turn.TheVariants.Down, Turn.TheVariants.Up, Turn.TheVariants.Slowly, Turn.TheVariants.Halt as Halted}
use Rattle.fb_rules.proofs.{Budgets.fewer_reads, Chains.after_none, Few.own_few, Few.present_few, Plains.after_twice, Refusals.told_after, Refusals.told_first, Words.row_none}
use Rattle.fb_verify.proofs.{Turning.halts_on, Turning.goes_on, Turning.goes_down, Frames.no_row, Walking.AtNext, Walking.askable, Walking.next_stops, Walking.field_passed}
use Rattle.fb_verify.proofs.{Walking.field_work, Walking.field_skipped, Walking.skip_work, Passing.slot_is_one, Passing.stop_is}

module _ {w : Walk} {m : Lent} {under : Waiting} {waiting : ℕ} {top : Frame} {place : ℕ} {f : Live} (h : IsAtOpenField w m under waiting top place f) where
  abbrev b : List ℕ
  b = m.bytes

  abbrev S : Rows
  S = w.schema.now

  abbrev c : Checks
  c = w.checks

  abbrev t : ℕ
  t = (top.table).at

  -- what its tests tell, once its slot is read
  abbrev present : Option Failure
  present = present_failure c b S t f place f.kind

  chain : own_failure c b S t f ≡ after 1 present
  unfolding own_failure
  chain =
      let e = (h.at).present f h.here in
      ap (λ x. after (slot_reads b t f.slot) (failure_at c b S t f x)) e.0 ∙ ap (λ n. after n present) (slot_is_one b t f.slot e.1)

  counted : own_reads b t f ≡ 1 + present_reads b t f.slot f.kind
  unfolding own_reads
  counted = let e = (h.at).present f h.here in ap (λ x. slot_reads b t f.slot + reads_at b t f x) e.0 ∙ ap (λ n. n + present_reads b t f.slot f.kind) (slot_is_one b t f.slot e.1)

  entries_are : entries b S t f ≡ entries_of b S t f place f.kind
  unfolding entries
  entries_are = ap (entries_at b S t f) ((h.at).present f h.here).0

  -- the walk before that
  at_next : AtNext w (record { bytes = b; count = (h.at).before; base = 0 }) under top f
  at_next = record { walking = (h.at).walking; rests = h.rests; here = h.here }

  pub into_askable : IsAskable b S t f f.kind
  into_askable = askable at_next

  -- it fails
  pub into_stops : (at new : ℕ) (reason : Reason) → tested_by at new (Some reason) ≡ after m.count present → (stop : Stop) → IsStopAt S top at reason stop → IsStopped w m under.start under.frames (stopped stop new)
  into_stops at new reason told stop is =
      let e : Refusal = record { at = at; reason = reason } in
      let site : Site = record { object = (top.table).object; field = Some f.number } in
      let own = own_failure c b S t f in
      let x : after (h.at).before own ≡ Some (refused e new) = ap (after (h.at).before) chain ∙ after_twice (h.at).before 1 present ∙ ap (λ n. after n present) (sym (h.at).count) ∙ sym told in
      let fault = stopped (record { site = site; refusal = e }) new in
      subst (λ y. IsStopped w m under.start under.frames y) (stop_is stop e (top.table).object f.number new is.refusal is.object (is.field f h.here))
      (next_stops at_next fault (told_first site (h.at).before own (reads_failure w.limits (h.at).before (own_reads b t f) t) fault (told_after site (h.at).before new own e x)))

  -- or it holds, after these reads
  module _ (holds : present ≡ None) (q : ℕ) (paid : q ≡ m.count + present_reads b t f.slot f.kind) where
    own : own_failure c b S t f ≡ None
    own = chain ∙ ap (after 1) holds

    spent : q ≡ (h.at).before + own_reads b t f
    spent = omega (arith, paid, (h.at).count, counted)

    allowed : AreAllowed (w.limits).reads q
    allowed = fewer_reads (w.limits).reads q (m.count + 7) (omega (arith, paid, counted, own_few b t f)) h.room

    -- it leads on by these words
    abbrev past : Row → Frame
    past row = record top { next = top.next + 1; number = f.number; row = row }

    pub into_leads : (row : Row) → IsRow b S row → entries_of b S t f place f.kind ≡ words_of b S row → IsUnderWay c b S w.limits under.start under.frames (past row) w.tables w.deepest q
    into_leads row good leads = field_passed (h.at).walking f row f.number q h.rests h.here spent good allowed refl own (entries_are ∙ leads)

    pub into_work : (row : Row) → IsRow b S row → q + frame_work S (past row) ≤ m.count - 1 + frame_work S top
    into_work row good = omega (arith, (h.at).count, field_work (h.at).walking f row f.number q h.rests h.here spent good)

    -- or nowhere
    into_over : entries_of b S t f place f.kind ≡ [] → IsUnderWay c b S w.limits under.start under.frames (record top { next = top.next + 1 }) w.tables w.deepest q
    into_over none =
        field_skipped (h.at).walking f blank.row f.number q h.rests h.here spent (no_row c b S) allowed refl own (entries_are ∙ none ∙ sym (row_none b S blank.row refl))

    over_work : q + frame_work S (record top { next = top.next + 1 }) ≤ m.count - 1 + frame_work S top
    over_work = omega (arith, (h.at).count, skip_work (h.at).walking f blank.row f.number q h.rests h.here spent (no_row c b S))

-- what is less for the top is less for the whole stack
on_work : (S : Rows) (L : Bounds) (below : List Frame) (on top : Frame) (n q r : ℕ) → q + frame_work S on ≤ r + frame_work S top → q + work S L below on n ≤ r + work S L below top n
unfolding work
on_work S L below on top n q r paid = omega (arith, paid)

-- Behind it, a turn through the row that was put is one into it.
module _ {w mid : Walk} (then : Walk) {m q : Lent} (new : Lent) {under : Waiting} {waiting : ℕ} {top on : Frame} (past : Frame) (child : Child) (b : BeginsRow w mid m q under waiting top on) where
  kept : mid ≡ record w { tables = mid.tables; deepest = mid.deepest }
  kept = rw b.same refl

  less : q.count + work w.schema.now w.limits under.frames on mid.tables ≤ m.count - 1 + work w.schema.now w.limits under.frames top w.tables
  less = rw b.same (on_work w.schema.now w.limits under.frames on top w.tables q.count (m.count - 1) b.paid)

  stays : GoesOn mid then q new under on past → StaysInField w then m new under top past
  stays e = record { on = goes_on kept b.bytes b.table less (omega (arith, e.grows, b.grows)) e; grows = omega (arith, e.grows, b.grows) }

  pub far_turned : (turn : Turn) → RowTurned mid then q new under on past child turn → FieldTurned w then m new under top past child turn
  far_turned Down e = record { down = goes_down kept b.bytes b.table less (omega (arith, e.grows, b.grows)) e; grows = omega (arith, e.grows, b.grows) }
  far_turned Up e = record { on = stays e.on; rests = e.rests; next = e.next ∙ b.next }
  far_turned Slowly e = stays e
  far_turned Halted e = halts_on kept b.bytes e

-- The field's own tests hold.
module _ {w : Walk} {m : Lent} {under : Waiting} {waiting : ℕ} {top : Frame} {place : ℕ} {f : Live} (h : IsAtOpenField w m under waiting top place f) (new : Lent) (at : ℕ) (result : Option Reason)
    (e : IsTested m new at (present_failure w.checks m.bytes w.schema.now (top.table).at f place f.kind) (present_reads m.bytes (top.table).at f.slot f.kind) result) (none : result ≡ None) where
  held : present_failure w.checks m.bytes w.schema.now (top.table).at f place f.kind ≡ None
  held = (after_none m.count _).0 (rw none at (sym e.told))

  spent_on : new.count ≡ m.count + present_reads m.bytes (top.table).at f.slot f.kind
  spent_on = e.counted none

  pub few_spent : new.count ≤ m.count + 5
  few_spent = omega (arith, spent_on, present_few m.bytes (top.table).at f.slot f.kind)

  module _ (old row : Row) (leads : LeavesRow m.bytes w.schema.now (entries_of m.bytes w.schema.now (top.table).at f place f.kind) old row (nat_lt 0 row.left)) where
    -- it leads nowhere
    pub passed_over : row.left ≡ 0 → PassedField w w m new under top (record top { next = top.next + 1 })
    passed_over zero =
        let empty = (leads.none (ap (nat_lt 0) zero)).0 in
        record {
          on = record {
            on = record {
              same = refl;
              walking = rw e.bytes (into_over h held new.count spent_on empty);
              table = refl;
              falls = on_work w.schema.now w.limits under.frames _ top w.tables new.count (m.count - 1) (over_work h held new.count spent_on);
              grows = omega (arith, spent_on);
              bytes = e.bytes;
              short = omega (arith, few_spent, h.short);
            };
            grows = omega (arith, spent_on);
          };
          rests = h.rests;
          next = refl;
        }

    -- or on by these words
    module _ (more : 0 < row.left) where
      good : IsRow m.bytes w.schema.now row
      good = (leads.row (lt-ltb 0 row.left more)).0

      pub row_begins : BeginsRow w w m new under waiting top (record top { next = top.next + 1; number = f.number; row = row })
      row_begins = record {
        same = refl;
        row = record {
          many = h.many;
          walking = rw e.bytes (into_leads h held new.count spent_on row good (leads.entries (lt-ltb 0 row.left more)));
          more = more;
          short = omega (arith, few_spent, h.short);
        };
        table = refl;
        next = refl;
        paid = into_work h held new.count spent_on row good;
        grows = omega (arith, spent_on);
        bytes = e.bytes;
      }
