use Rattle.std.proofs.Common.{None, ◌≡◌, ◌+◌, ◌-◌, ◌*◌, ◌/◌, length, map, sym, ap, subst, ◌∙◌, arith}
use Rattle.std.specs.Prelude.{slice_get, ◌==◌, ◌||◌}
use Rattle.fb_bytes.specs.Word.{Lent, word}
use Rattle.fb_schema.specs.{Live.live_of_view, Live.live_fields, Rows.Rows}
use Rattle.fb_rules.specs.{declared.fault.Reason.TheVariants.UnknownField, Order.check, Places.vtable, Told.stopped, Told.IsAskedAt}
use Rattle.fb_strict.specs.{declared.demands.Demands.Demands, Planned.Planned, Passing.Passing, Passing.IsRoom, Passing.Breaks, Passing.GoesOn, InOrder.slot_failure}
use Rattle.fb_strict.specs.Leaves.{is_next_slot}
use Rattle.fb_strict.proofs.KnownSlots.{none_walked, live_is, slot_stops, walked_on, walked_by, all_walked, next_within, not_off, off_by, none_asked, slots_are}
use Rattle.fb_strict.proofs.pass.Pass.pass_slots.Goals as goal
use Rattle.fb_strict.proofs.pass.Pass.pass_slots.Goals.{After-pass_slot, then-live, else-live}

-- src/pass.rt
pub loop-passed-init : goal.loop-passed-init
loop-passed-init g c = none_walked c.args.self.now c.args.reads.now c.args.child _ c.requires.passing.served

pub pass_slot-requires-clause-room : goal.pass_slot-requires-clause-room
pass_slot-requires-clause-room g c = subst (λ n. IsRoom c.args.self.now.limits n c.args.room) (sym (ap (λ (x : Lent). x.base) c.loop-passed.invariant.same)) c.requires.room

pub pass_slot-requires-clause-few : goal.pass_slot-requires-clause-few
pass_slot-requires-clause-few g c =
    let h = c.loop-passed.invariant in
    let base = ap (λ (x : Lent). x.base) h.same in
    let count = ap (λ (x : Lent). x.count) h.same in
    let size = c.saturating_sub-count.type_inv in
    omega (arith, base, count, c.requires.few, c.loop-passed-test.true, size)

pub pass_slot-requires-clause-within : goal.pass_slot-requires-clause-within
pass_slot-requires-clause-within g c =
    let bytes = ap (λ (x : Lent). length x.bytes) c.loop-passed.invariant.same in
    omega (arith, bytes, c.requires.head.within, c.loop-passed-test.true, c.saturating_sub-count.ensures, c.from.ensures)

-- what was asked of a slot
asked : (g : _) (c : After-pass_slot g) → IsAskedAt (record { object = c.args.child.object; field = None }) c.args.self.now.limits c.loop-passed.reads c.pass_slot.new.reads
    (slot_failure c.args.reads.now.bytes (live_fields c.args.self.now.rows c.args.child.object) (vtable c.args.reads.now.bytes c.args.child.at) (4 + 2 * c.loop-passed.passed)) 1 c.args.child.at c.pass_slot.result
asked g c =
    let p = c.args.self.now in
    let m = c.args.reads.now in
    let h = c.loop-passed.invariant in
    let bytes = ap (λ (x : Lent). x.bytes) h.same in
    let rows = ap (λ (x : Passing). x.rows) c.self.view_is in
    let slot = 4 + 2 * c.loop-passed.passed in
    let fields = c.fields_of-fields.ensures.value ∙ ap (λ (S : Rows). live_fields S c.args.child.object) rows in
    let next = ap (λ fs. is_next_slot (slice_get fs c.loop-passed.next) slot) fields in
    let live = c.has_slot-live.ensures ∙ next ∙ sym (live_is p m c.loop-passed.reads c.args.child _ c.loop-passed.next c.loop-passed.passed c.requires.passing.served h c.loop-passed-test.true) in
    let place = c.requires.head.place in
    let from = c.from.ensures in
    let chain : check (word c.loop-passed.reads.bytes (c.args.head.vtable + c.from.result) 2 == 0 || c.has_slot-live.result) UnknownField (c.args.head.vtable + c.from.result) 1 None
    ≡ slot_failure m.bytes (live_fields p.rows c.args.child.object) (vtable m.bytes c.args.child.at) slot = λ i. check (word (bytes i) (place i + from i) 2 == 0 || live i) UnknownField (place i + from i) 1 None in
    subst (λ e. IsAskedAt {A = Unit {0}} (record { object = c.args.child.object; field = None }) p.limits c.loop-passed.reads c.pass_slot.new.reads e 1 c.args.child.at c.pass_slot.result) chain
    (subst (λ site. IsAskedAt {A = Unit {0}} site p.limits c.loop-passed.reads c.pass_slot.new.reads (check (word c.loop-passed.reads.bytes (c.args.head.vtable + c.from.result) 2 == 0 || c.has_slot-live.result) UnknownField (c.args.head.vtable + c.from.result) 1 None) 1 c.args.child.at c.pass_slot.result)
    c.requires.site c.pass_slot.ensures)

pub returns-in-Err : goal.returns-in-Err
returns-in-Err g c via rest =
    let a = (goal.at.returns-in-Err g c).After-pass_slot in
    let p = c.args.self.now in
    let plan = ap (λ (x : Passing). x.plan) c.self.view_is in
    let known = sym (ap (λ (D : Demands). D.known_fields) c.demands.ensures ∙ ap (λ (q : Planned). q.demands.known_fields) plan) ∙ not_off c.demands.result.known_fields c.if-not-demands.false in
    let count = ap (λ n. n / 2) (c.saturating_sub-count.ensures ∙ ap (λ n. n - 4) c.requires.head.size) in
    subst (λ xs. Breaks p.limits c.args.reads.now.count xs (stopped c.in-Err.stop c.pass_slot.new.reads.count) via) (slots_are p c.args.reads.now.bytes c.args.child _ known count via rest)
    (slot_stops p c.args.reads.now c.loop-passed.reads c.args.child _ c.loop-passed.next c.loop-passed.passed c.requires.passing.served c.loop-passed.invariant c.loop-passed-test.true c.pass_slot.new.reads c.pass_slot.result (asked g a) c.in-Err.stop c.in-Err.is via rest)

pub overflow_add-next : goal.overflow_add-next
overflow_add-next g c =
    let within = next_within (map live_of_view c.fields_of-fields.result.now) c.loop-passed.next (4 + 2 * c.loop-passed.passed) (sym c.has_slot-live.ensures ∙ c.if-live.true) in
    let long = ap length c.fields_of-fields.ensures.value in
    let few = c.requires.passing.served.few c.args.child.object in
    let rows = ap (λ (x : Passing). length (live_fields x.rows c.args.child.object)) c.self.view_is in
    omega (arith, within, long, few, rows)

pub loop-passed-preserved : goal.loop-passed-preserved
loop-passed-preserved g c =
    let a = (goal.at.loop-passed-preserved g c).After-pass_slot in
    let p = c.args.self.now in
    let m = c.args.reads.now in
    let rows = ap (λ (x : Passing). x.rows) c.self.view_is in
    let slot = 4 + 2 * c.loop-passed.passed in
    let fields = c.fields_of-fields.ensures.value ∙ ap (λ (S : Rows). live_fields S c.args.child.object) rows in
    let next = sym (ap (λ fs. is_next_slot (slice_get fs c.loop-passed.next) slot) fields) ∙ sym c.has_slot-live.ensures in
    elim c.if-live.branch [
      | then-live w ↦ rw (w.next-is) (walked_on p m c.loop-passed.reads c.args.child _ c.loop-passed.next c.loop-passed.passed c.requires.passing.served c.loop-passed.invariant c.loop-passed-test.true c.pass_slot.new.reads c.pass_slot.result (asked g a) c.in_default.field-0 c.in_default.is (next ∙ w.if-live.true))
      | else-live w ↦ rw (w.next-is) (walked_by p m c.loop-passed.reads c.args.child _ c.loop-passed.next c.loop-passed.passed c.requires.passing.served c.loop-passed.invariant c.loop-passed-test.true c.pass_slot.new.reads c.pass_slot.result (asked g a) c.in_default.field-0 c.in_default.is (next ∙ w.if-live.false))
    ]

pub returns : goal.returns
returns g c via rest =
    let p = c.args.self.now in
    let plan = ap (λ (x : Passing). x.plan) c.self.view_is in
    let known = sym (ap (λ (D : Demands). D.known_fields) c.demands.ensures ∙ ap (λ (q : Planned). q.demands.known_fields) plan) ∙ not_off c.demands.result.known_fields c.if-not-demands.false in
    let count = ap (λ n. n / 2) (c.saturating_sub-count.ensures ∙ ap (λ n. n - 4) c.requires.head.size) in
    subst (λ xs. GoesOn p c.args.reads.now c.loop-passed.reads xs rest) (slots_are p c.args.reads.now.bytes c.args.child _ known count via rest)
    (all_walked p c.args.reads.now c.loop-passed.reads c.args.child _ c.loop-passed.next c.loop-passed.passed c.loop-passed.invariant (omega (arith, c.loop-passed-test.false)) via rest)

pub returns-then-not-demands : goal.returns-then-not-demands
returns-then-not-demands g c via rest =
    let plan = ap (λ (x : Passing). x.plan) c.self.view_is in
    let off = sym (ap (λ (D : Demands). D.known_fields) c.demands.ensures ∙ ap (λ (q : Planned). q.demands.known_fields) plan) ∙ off_by c.demands.result.known_fields c.if-not-demands.true in
    none_asked c.args.self.now c.args.reads.now c.args.child off via rest
