use Rattle.std.proofs.Common.{◌≡◌, ◌+◌, ◌<◌, map, length, option_map, refl, sym, ◌∙◌, ap, arith}
use Rattle.std.proofs.lemmas.{Bool.ltb-false, Bool.ltb-true, Option.slice_get-map}
use Rattle.fb_schema.specs.{Live.live_fields, Live.live_of_view, Steps.step_of}
use Rattle.fb_rules.specs.{Places.vtable_size, declared.table.Table.Table}
use Rattle.fb_verify.specs.{Stack.IsWalking, Units.PassesFields}
use Rattle.fb_verify.proofs.{Frames.item_some, Frames.field_at, Frames.length_map, Walking.err_exit, Walking.AtNext, Walking.askable, Walking.next_stops, Walking.next_leads}
use Rattle.fb_verify.proofs.{Walking.next_over, Passing.AtStep, Passing.long, Passing.rest_absent, Passing.required_stops, Passing.some_past, stack.Walk.pass_each.Goals.In-Some}
use Rattle.fb_verify.proofs.stack.Walk.pass_each.Goals as goal

-- the field that comes
here : (g : _) (c : In-Some g) → AtNext c.args.self.now c.loop-field.loan g.under c.loop-field.top (live_of_view c.in-Some.field.now)
here g c =
    let i = c.loop-field.invariant in
    record {
      walking = (i.between).walking;
      rests = (i.between).rests;
      here = rw (sym i.table) at (field_at live_of_view c.fields_of-fields.result.now _ _ _ c.fields_of-fields.ensures.value (item_some _ _ _ _ c.get.ensures.lookup c.in-Some.is));
    }

pub pass_field-requires-clause-askable : goal.pass_field-requires-clause-askable
pass_field-requires-clause-askable g c = askable (here g (goal.at.pass_field-requires-clause-askable g c).In-Some)

pub returns-in_err-pass_field : goal.returns-in_err-pass_field
returns-in_err-pass_field g c =
    let h = here g (goal.at.returns-in_err-pass_field g c).In-Some in
    let i = c.loop-field.invariant in
    let e = c.in_err-pass_field.ensures.asked in
    err_exit c.from_residual.result _ (λ r. PassesFields c.args.self.now c.args.loan.now c.pass_field.new.loan g.under c.args.top.now (record c.loop-field.top { next = c.loop-field.top.next + 1; row = c.pass_field.new.row }) r) c.from_residual.ensures.1
    (e.bytes ∙ i.bytes, rw i.bytes at (next_stops h _ e.err))

-- its step
stepped : (g : _) (c : In-Some g) → AtStep c.args.self.now c.loop-field.loan g.under c.loop-field.top (map step_of (live_fields c.args.self.now.schema.now (c.loop-field.top.table).object)) (step_of (live_of_view c.in-Some.field.now))
stepped g c =
    let h = here g c in
    record { walking = h.walking; rests = h.rests; all = refl; got = slice_get-map step_of (live_fields c.args.self.now.schema.now (c.loop-field.top.table).object) c.loop-field.top.next ∙ ap (option_map step_of) h.here }

pub returns-in_default-next_required : goal.returns-in_default-next_required
returns-in_default-next_required g c =
    let h = here g (goal.at.returns-in_default-next_required g c).In-Some in
    let s = stepped g (goal.at.returns-in_default-next_required g c).In-Some in
    let i = c.loop-field.invariant in
    let top = c.loop-field.top in
    let fields = c.fields_of-fields.result.now in
    let all = rw (sym i.table) at (ap length c.fields_of-fields.ensures.value) in
    let all_fields : length fields ≡ length (live_fields c.args.self.now.schema.now (top.table).object) = omega (arith, length_map live_of_view fields, all) in
    let past : vtable_size c.loop-field.loan.bytes (top.table).at < (c.in-Some.field.now).slot + 2 = omega (arith, ltb-true _ _ (sym c.ends_before.ensures ∙ c.if-ends_before.true), ((((h.walking).frame).head).vtable).size) in
    let next = ((h.walking).frame).next in
    let walking : IsWalking c.args.self.now c.loop-field.loan (g.under).start (g.under).frames (record top { next = length fields }) = rw (all_fields ∙ sym (long s)) (rest_absent s past (sym c.next_required.ensures ∙ c.in_default-next_required.is)) in (
      record { between = record { walking = walking; rests = h.rests }; table = i.table; falls = omega (arith, i.falls, all_fields, next); grows = i.grows; bytes = i.bytes },
      omega (arith, all_fields),
    )

pub returns-then-ends_before : goal.returns-then-ends_before
returns-then-ends_before g c =
    let h = here g (goal.at.returns-then-ends_before g c).In-Some in
    let s = stepped g (goal.at.returns-then-ends_before g c).In-Some in
    let i = c.loop-field.invariant in
    let e = c.stop_at.ensures in
    let past : vtable_size c.loop-field.loan.bytes (c.loop-field.top.table).at < (c.in-Some.field.now).slot + 2 = omega (arith, ltb-true _ _ (sym c.ends_before.ensures ∙ c.if-ends_before.true), ((((h.walking).frame).head).vtable).size) in
    let some = sym c.next_required.ensures ∙ c.in-Some-next_required.is in
    (i.bytes, rw i.bytes at (required_stops s past c.in-Some-next_required.needed some c.stop_at.result (record { refusal = e.refusal; object = e.object; field = e.field })))

pub returns-then-branch : goal.returns-then-branch
returns-then-branch g c =
    let h = here g (goal.at.returns-then-branch g c).In-Some in
    let i = c.loop-field.invariant in
    let e = c.in_ok-pass_field.ensures.asked in
    let leads = c.in_ok-pass_field.ensures.leads in
    let more = c.if-branch.true in
    rw e.counted (next_leads h e.ok refl (rw e.counted at e.reads) i.falls (omega (arith, i.grows)) i.bytes c.pass_field.new.row (leads.row more) (leads.entries more))

pub loop-field-preserved : goal.loop-field-preserved
loop-field-preserved g c =
    let h = here g (goal.at.loop-field-preserved g c).In-Some in
    let i = c.loop-field.invariant in
    let e = c.in_ok-pass_field.ensures.asked in
    let none = c.in_ok-pass_field.ensures.leads.none c.if-branch.false in
    rw (e.counted, none.1) (next_over h e.ok refl (rw e.counted at e.reads) i.falls (omega (arith, i.grows)) i.bytes i.table none.0)

pub stop_at-requires-clause-next : goal.stop_at-requires-clause-next
stop_at-requires-clause-next g c = (some_past (live_fields c.args.self.now.schema.now (c.loop-field.top.table).object) c.loop-field.top.next c.in-Some-next_required.needed (sym c.next_required.ensures ∙ c.in-Some-next_required.is)).0

pub returns : goal.returns
returns g c =
    let i = c.loop-field.invariant in
    let its = c.fields_of-fields.ensures.value ∙ ap (λ (x : Table). live_fields c.args.self.now.schema.now x.object) (sym i.table) in
    let xs = c.fields_of-fields.result.now in
    (i, omega (arith, ltb-false c.loop-field.top.next (length xs) (sym c.in_default.ensures.lookup.0), ap length its, length_map live_of_view xs))
