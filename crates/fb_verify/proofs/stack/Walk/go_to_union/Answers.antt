use Rattle.std.proofs.Common.{◌≡◌, ◌+◌, ◌<◌, nat_lt, None, refl, ap, arith}
use Rattle.fb_bytes.specs.Word.{Lent}
use Rattle.fb_schema.specs.Live.{live_of_view}
use Rattle.fb_rules.specs.{Cost.present_reads, Fields.entries_of, OffsetRows.LeavesRow, OffsetRows.AreAll, Order.present_failure, Plain.IsTested, declared.table.Child.Child}
use Rattle.fb_rules.specs.declared.offset_row.{Leads.Leads, Leads.TheVariants.All, Leads.TheVariants.ByType, Referent.Referent, Row.Row}
use Rattle.fb_verify.specs.{Stack.blank, Stack.Waiting, Turns.BeginsRow, Turns.MemberTurned, Turns.RowTurned, declared.stack.Walk.Walk, declared.stack.Turn.Turn}
use Rattle.fb_verify.specs.declared.{stack.Turn.TheVariants.Up, scratch.Frame.Frame}
use Rattle.fb_rules.proofs.Budgets.{fewer_reads}
use Rattle.fb_verify.proofs.{IntoField.into_askable, IntoField.into_stops, IntoField.few_spent, IntoField.passed_over, IntoField.row_begins, IntoField.far_turned, Turns.halts_in_field}
use Rattle.fb_verify.proofs.stack.Walk.go_to_union.Goals.{After-put_union-failed}
use Rattle.fb_verify.proofs.stack.Walk.go_to_union.Goals as goal

pub put_union-failed-requires-clause-present : goal.put_union-failed-requires-clause-present
put_union-failed-requires-clause-present g c = (((c.requires.0).at).present (live_of_view c.args.field.now) (c.requires.0).here).1

pub put_union-failed-requires-clause-typed : goal.put_union-failed-requires-clause-typed
put_union-failed-requires-clause-typed g c = rw c.requires.1.0 at (into_askable c.requires.0).typed

-- its tests were made
tested : (g : _) (c : After-put_union-failed g)
    → IsTested c.args.reads.now c.put_union-failed.new.reads c.args.at (present_failure c.args.self.now.checks c.args.reads.now.bytes c.args.self.now.schema.now (c.args.top.now.table).at (live_of_view c.args.field.now) c.args.at (c.args.field.now).kind) (present_reads c.args.reads.now.bytes (c.args.top.now.table).at (c.args.field.now).slot (c.args.field.now).kind) c.put_union-failed.result
tested g c = rw (c.requires.1.0, ← c.requires.1.1) c.put_union-failed.ensures.tested

pub returns-in-Some : goal.returns-in-Some
returns-in-Some g c =
    let h = c.requires.0 in
    let e = tested g (goal.at.returns-in-Some g c).After-put_union-failed in
    let s = c.stop_in_field.ensures in
    rw s.turn
    (halts_in_field h.many e.bytes ((h.at).walking).links s.links s.last
    (into_stops h c.args.at c.put_union-failed.new.reads.count c.in-Some.reason (rw c.in-Some.is at e.told) _
    (record { refusal = s.refusal; object = s.object; field = s.field })))

-- what it leads to was put
leads : (g : _) (c : After-put_union-failed g) → c.put_union-failed.result ≡ None
    → LeavesRow c.args.reads.now.bytes c.args.self.now.schema.now (entries_of c.args.reads.now.bytes c.args.self.now.schema.now (c.args.top.now.table).at (live_of_view c.args.field.now) c.args.at (c.args.field.now).kind) blank.row c.put_union-failed.new.row (nat_lt 0 c.put_union-failed.new.row.left)
leads g c none = rw c.requires.1.0 (c.put_union-failed.ensures.leads none)

pub returns-then-row-eq0 : goal.returns-then-row-eq0
returns-then-row-eq0 g c =
    let d = (goal.at.returns-then-row-eq0 g c).After-put_union-failed in
    passed_over c.requires.0 _ _ _ (tested g d) c.in_default.is _ _ (leads g d c.in_default.is) c.if-row-eq0.true

-- to one referent
all_of : (leads : Leads) → AreAll leads → (referent : Referent) × (leads ≡ All referent)
all_of (All referent) h = (referent, refl)
all_of (ByType e q) h = absurd h

-- into the row, which isn't the frame's yet
begins : (g : _) (c : After-put_union-failed g) → c.put_union-failed.result ≡ None → 0 < c.put_union-failed.new.row.left
    → BeginsRow c.args.self.now c.args.self.now c.args.reads.now c.put_union-failed.new.reads g.under c.args.waiting c.args.top.now (record c.args.top.now { next = c.args.top.now.next + 1; number = c.args.field.now.number; row = c.put_union-failed.new.row })
begins g c none more = row_begins c.requires.0 _ _ _ (tested g c) none _ _ (leads g c none) more

pub pass_member-turn-requires : goal.pass_member-turn-requires
pass_member-turn-requires g c =
    let d = (goal.at.pass_member-turn-requires g c).After-put_union-failed in
    let none = c.in_default.is in
    let more : 0 < c.put_union-failed.new.row.left = omega (arith, c.if-row-eq0.false) in
    let one = c.put_union-failed.ensures.one none more in
    let limits = c.if-not-may_open.false in
    let spent = few_spent c.requires.0 _ _ _ (tested g d) none in (
      record {
        in-row = (begins g d none more).row;
        limits = c.may_open.ensures.limits limits;
        allowed = fewer_reads (c.args.self.now.limits).reads _ _ (omega (arith, spent, c.may_open.ensures.room limits)) c.short_of.ensures.allowed;
        short = omega (arith, spent, c.may_open.ensures.room limits, c.short_of.ensures.short);
      },
      (c.brim.ensures, ((λ e. absurd cc), (rw (all_of _ one.1).1 tt, c.requires.1.1))),
    )

-- a turn that stays before its word is one through its row
row_left : (w then : Walk) (m new : Lent) (under : Waiting) (top past : Frame) (row left : Row) (child : Child) (turn : Turn) → (turn ≡ Up → ⊥) → MemberTurned w then m new under top past row left child turn
    → RowTurned w then m new under (record top { row = row }) past child turn
row_left w then m new under top past row left child turn n h = grind arith

pub returns-in-Up : goal.returns-in-Up
returns-in-Up g c =
    let d = (goal.at.returns-in-Up g c).After-put_union-failed in
    let none = c.in_default.is in
    let more : 0 < c.put_union-failed.new.row.left = omega (arith, c.if-row-eq0.false) in
    let one = c.put_union-failed.ensures.one none more in
    let p = rw c.in-Up.is at c.pass_member-turn.ensures in
    let new = c.pass_member-turn.new in
    let left : new.row.left ≡ 0 = omega (arith, ap (λ (x : Row). x.left) p.word, one.0) in
    rw c.in-Up.is
    (far_turned _ _ _ new.child (begins g d none more) Up
    (record { on = rw p.same p.on; rests = left; next = ap (λ (x : Frame). x.next) p.same }))

pub returns-in_default-turn : goal.returns-in_default-turn
returns-in_default-turn g c =
    let d = (goal.at.returns-in_default-turn g c).After-put_union-failed in
    let none = c.in_default.is in
    let more : 0 < c.put_union-failed.new.row.left = omega (arith, c.if-row-eq0.false) in
    far_turned _ _ _ _ (begins g d none more) c.pass_member-turn.result (row_left _ _ _ _ _ _ _ _ _ _ c.pass_member-turn.result c.in_default-turn.not-Up c.pass_member-turn.ensures)
