use Rattle.std.proofs.Common.{◌≡◌, ◌∙◌, ◌+◌, ◌-◌, ◌/◌, ◌^◌, ◌≤◌, Some, None, IsTrue, refl, sym, ap, arith}
use Rattle.fb_schema.specs.Rows.{is_table}
use Rattle.fb_rules.specs.{Cost.present_reads, Order.after, Order.present_failure, Plain.tested_by, Plain.IsTested, declared.offset_row.Referent.TheVariants.Table as ATable}
use Rattle.fb_rules.specs.declared.offset_row.Row.{Row}
use Rattle.fb_verify.specs.{Stack.blank, Turns.BeginsRow, declared.stack.Turn.TheVariants.Slowly}
use Rattle.fb_rules.proofs.{Budgets.fewer_reads, Words.word_left}
use Rattle.fb_verify.proofs.{RowTurns.stays, Turns.halts_in_field, IntoField.into_askable, IntoField.into_stops, IntoField.row_begins, IntoField.far_turned}
use Rattle.fb_verify.proofs.stack.Walk.go_to_table.Goals.{After-one-row}
use Rattle.fb_verify.proofs.stack.Walk.go_to_table.Goals as goal

pub returns-in-Some : goal.returns-in-Some
returns-in-Some g c =
    let w = c.args.self.now in
    let m = c.args.reads.now in
    let top = c.args.top.now in
    let f = c.requires.0.0 in
    let r = c.requires.0.1 in
    let s = c.stop_in_field.ensures in
    let told : tested_by c.args.at m.count (Some c.in-Some.reason) ≡ after m.count (present_failure w.checks m.bytes w.schema.now (top.table).at f c.args.at f.kind) =
    rw c.requires.0.2 (rw (c.requires.1, c.in-Some.is) at c.test_end-failed.ensures.told) in
    rw s.turn
    (halts_in_field r.many refl ((r.at).walking).links s.links s.last
    (into_stops r c.args.at m.count c.in-Some.reason told _ (record { refusal = s.refusal; object = s.object; field = s.field })))

table : (g : _) (c : After-one-row g) → IsTrue (is_table c.args.self.now.schema.now c.args.step.now.size)
table g c = let a = into_askable c.requires.0.1 in rw c.requires.0.2 at a.holds

-- the number of the field follows from its slot
number : (g : _) (c : After-one-row g) → (c.requires.0.0).number ≡ (c.args.step.now.slot - 4) / 2
number g c =
    let r = c.requires.0.1 in
    let slot = sym c.requires.0.3 ∙ ((r.at).walking).served.slots (c.args.top.now.table).object c.args.top.now.next c.requires.0.0 r.here in
    omega (arith, slot)

-- it holds by itself, and its word is put into the row
begins : (g : _) (c : After-one-row g)
    → BeginsRow c.args.self.now c.args.self.now c.args.reads.now c.args.reads.now g.under c.args.waiting c.args.top.now (record c.args.top.now { next = c.args.top.now.next + 1; number = (c.args.step.now.slot - 4) / 2; row = c.one-row.result })
begins g c =
    let r = c.requires.0.1 in
    let m = c.args.reads.now in
    let e : IsTested m m c.args.at (present_failure c.args.self.now.checks m.bytes c.args.self.now.schema.now (c.args.top.now.table).at c.requires.0.0 c.args.at (c.requires.0.0).kind) (present_reads m.bytes (c.args.top.now.table).at (c.requires.0.0).slot (c.requires.0.0).kind) None =
    rw c.requires.0.2 (record { told = rw (c.requires.1, c.in_default.is) at c.test_end-failed.ensures.told; counted = λ _. omega arith; bytes = refl; base = refl }) in
    rw (number g c) at (row_begins r m c.args.at None e refl blank.row c.one-row.result (rw (c.requires.0.2, c.one-row.ensures) (word_left (ATable c.args.step.now.size) c.args.at blank.row (r.at).near (table g c))) (omega (arith, ap (λ (x : Row). x.left) c.one-row.ensures)))

pub returns-then-not-allows_table : goal.returns-then-not-allows_table
returns-then-not-allows_table g c =
    let d = (goal.at.returns-then-not-allows_table g c).After-one-row in
    let w = c.args.self.now in
    let m = c.args.reads.now in
    let b = begins g d in
    far_turned _ _ _ c.args.child.now b Slowly (stays w m g.under _ (b.row).walking (b.row).short)

pub take_word-requires : goal.take_word-requires
take_word-requires g c =
    let d = (goal.at.take_word-requires g c).After-one-row in
    let r = c.requires.0.1 in
    let n = c.args.reads.now.count in
    let room = fewer_reads (c.args.self.now.limits).reads (n + 4) (n + 7) (omega arith) r.room in
    let short : n + 4 ≤ 2 ^ 56 = omega (arith, r.short) in
    (record { in-row = (begins g d).row; leads = ap (λ (x : Row). x.leads) c.one-row.ensures; table = table g d }, (c.allows_table.ensures c.if-not-allows_table.false, (room, (short, c.requires.1))))

pub returns : goal.returns
returns g c = far_turned _ _ _ _ (begins g (goal.at.returns g c).After-one-row) c.take_word.result c.take_word.ensures
