use Rattle.std.proofs.Common.{◌≡◌, ℕ, List, map, Some, get_or, ◌*◌, ◌+◌, ◌-◌, ◌<◌, ◌≤◌, length, refl, sym, ◌∙◌, ap, arith}
use Rattle.fb_rules.specs.{Bounds.Bounds, declared.table.Table.Table}
use Rattle.fb_schema.specs.{Rows.Rows, Live.Live, Live.live_fields, Steps.step_of, declared.views.Step.Step}
use Rattle.std.proofs.{Math.Nat.le_trans, lemmas.Option.slice_get-get_or}
use Rattle.std.specs.Prelude.{slice_get}
use Rattle.fb_bytes.specs.Word.{Lent}
use Rattle.fb_verify.specs.{PassesOn.ComesToField, PassesOn.fields_left, Stack.work, Stack.Waiting, Turns.IsAtOpenField, Turns.IsAtStep, declared.scratch.Frame.Frame}
use Rattle.fb_verify.specs.declared.stack.Walk.{Walk}
use Rattle.fb_rules.proofs.{Budgets.fewer_reads, Plains.step_at}
use Rattle.fb_verify.proofs.{Frames.length_map, Turning.halts_on, Turning.field_turned, Turning.field_over, Turns.halts_in_field, stack.Walk.pass_fields.Goals.In-Ok-true}
use Rattle.fb_verify.proofs.stack.Walk.pass_fields.Goals as goal

-- what the loop over plain fields came to
comes : (g : _) (c : In-Ok-true g) → ComesToField c.loop-steps.self c.loop-steps.reads c.pass_plain.new.reads g.under c.loop-steps.top c.pass_plain.new.top c.pass_plain.new.at
comes g c = rw (c.in-Ok-true.is, c.in-Ok-true.field-0-test) at c.pass_plain.ensures.comes

-- fields that were passed, for so many reads each at most, left less work
passed_work : (S : Rows) (L : Bounds) (below : List Frame) (past top : Frame) (n r q : ℕ) → past ≡ record top { next = past.next } → top.next ≤ past.next → past.next ≤ length (live_fields S (top.table).object)
    → r + 6 * fields_left S past ≤ q + 6 * fields_left S top → r + work S L below past n ≤ q + work S L below top n
unfolding work
passed_work S L below past top n r q same forth within paid =
    omega (arith, paid, forth, within, ap (λ (x : Frame). length (live_fields S (x.table).object)) same, ap (λ (x : Frame). (x.row).left) same)

-- after work that left room for it
falls : (g : _) (c : In-Ok-true g) → c.pass_plain.new.reads.count - 1 + work c.args.self.now.schema.now c.args.self.now.limits (g.under).frames c.pass_plain.new.top c.loop-steps.self.tables
    ≤ c.args.reads.now.count + work c.args.self.now.schema.now c.args.self.now.limits (g.under).frames c.args.top.now c.args.self.now.tables
falls g c =
    let i = c.loop-steps.invariant.0 in
    let p = c.pass_plain.ensures in
    let w = c.args.self.now in
    let schema = ap (λ (x : Walk). x.schema.now) i.same in
    let e = comes g c in
    le_trans (passed_work w.schema.now w.limits (g.under).frames c.pass_plain.new.top c.loop-steps.top c.loop-steps.self.tables (c.pass_plain.new.reads.count - 1) c.loop-steps.reads.count p.same e.forth (rw schema at e.within) (omega (arith, rw schema at e.paid, (e.field).count))) i.falls

pub returns-in-Ok-false : goal.returns-in-Ok-false
returns-in-Ok-false g c =
    let i = c.loop-steps.invariant.0 in
    let p = c.pass_plain.ensures in
    let S = c.args.self.now.schema.now in
    let e = rw (c.in-Ok-false.is, c.in-Ok-false.field-0-test) at p.comes in
    let schema = ap (λ (x : Walk). x.schema.now) i.same in
    let long = ap (λ x. length (live_fields S (x.table).object)) p.same in
    let left = ap (λ x. (x.row).left) p.same in
    let ends = rw schema at e.ends in
    record {
      on = record {
        same = i.same;
        walking = e.walking;
        table = ap (λ x. x.table) p.same ∙ i.table;
        falls = le_trans (passed_work S c.args.self.now.limits (g.under).frames c.pass_plain.new.top c.loop-steps.top c.loop-steps.self.tables c.pass_plain.new.reads.count c.loop-steps.reads.count p.same e.forth (rw schema at e.within) ends) i.falls;
        grows = omega (arith, i.grows, p.grows);
        bytes = p.bytes ∙ i.bytes;
        short = omega (arith, e.ends, (c.has_room.ensures c.loop-steps-test.true).short);
      };
      rests = left ∙ c.loop-steps.invariant.1;
      all = rw long (rw schema at e.all);
    }

pub returns-in-Err : goal.returns-in-Err
returns-in-Err g c =
    let i = c.loop-steps.invariant.0 in
    let p = c.pass_plain.ensures in
    let e = c.stop_in_field.ensures in
    let stops = (rw c.in-Err.is at p.comes).err (c.stop_in_field.new.self.halt).stop (record { refusal = e.refusal; object = e.object; field = e.field }) in
    rw e.turn
    (halts_on {been = c.loop-steps.reads} i.same i.bytes
    (halts_in_field c.requires.0 p.bytes (i.walking).links e.links e.last stops))

-- the field of the step at the next place
at_step : {w : Walk} {m : Lent} {under : Waiting} {waiting : ℕ} {top : Frame} {place : ℕ} (steps : List Step) (d : Step) → steps ≡ map step_of (live_fields w.schema.now (top.table).object)
    → top.next < length (live_fields w.schema.now (top.table).object) → ((f : Live) → slice_get (live_fields w.schema.now (top.table).object) top.next ≡ Some f → IsAtOpenField w m under waiting top place f)
    → IsAtStep w m under waiting top place (get_or steps top.next d)
at_step {w} {m} {under} {waiting} {top} {place} steps d its within field =
    let fs = live_fields w.schema.now (top.table).object in
    let many : top.next < length steps = omega (arith, within, ap length its, length_map step_of fs) in
    let found = step_at fs top.next (get_or steps top.next d) (ap (λ xs. slice_get xs top.next) (sym its) ∙ slice_get-get_or steps top.next d many) in
    (found.0, field found.0 found.1, found.2)

-- the steps are those of the top's fields
its : (g : _) (c : In-Ok-true g) → c.steps_of-steps.result.now ≡ map step_of (live_fields c.loop-steps.self.schema.now (c.pass_plain.new.top.table).object)
its g c =
    let i = c.loop-steps.invariant.0 in
    rw (ap (λ (x : Walk). x.schema.now) i.same, ap (λ (x : Frame). x.table) c.pass_plain.ensures.same ∙ i.table) c.steps_of-steps.ensures.value

pub bounds-steps-top : goal.bounds-steps-top
bounds-steps-top g c =
    let d = (goal.at.bounds-steps-top g c).In-Ok-true in
    omega (arith, ((comes g d).field).within, ap length (its g d), length_map step_of (live_fields c.loop-steps.self.schema.now (c.pass_plain.new.top.table).object))

pub pass_plain-requires : goal.pass_plain-requires
pass_plain-requires g c =
    let i = c.loop-steps.invariant in
    let checks = ap (λ (x : Walk). x.checks) (i.0).same in
    (rw (ap (λ (x : Walk). x.schema.now) (i.0).same, (i.0).table) c.steps_of-steps.ensures.value, (refl, (refl, (record { walking = (i.0).walking; rests = i.1 }, ((c.has_room.ensures c.loop-steps-test.true).room, c.requires.1.1.1.1 ∙ sym checks)))))

pub loop-steps-smaller : goal.loop-steps-smaller
loop-steps-smaller g c =
    let d = (goal.at.loop-steps-smaller g c).In-Ok-true in
    let i = c.loop-steps.invariant.0 in
    let e = comes g d in
    let S = c.args.self.now.schema.now in
    let long = ap (λ (x : Frame). length (live_fields S (x.table).object)) c.pass_plain.ensures.same ∙ ap (λ (x : Table). length (live_fields S x.object)) i.table in
    omega (arith, c.in-Up.ensures.next, e.forth, rw (ap (λ (x : Walk). x.schema.now) i.same) at (e.field).within, long)

pub go_into-requires : goal.go_into-requires
go_into-requires g c =
    let d = (goal.at.go_into-requires g c).In-Ok-true in
    let i = c.loop-steps.invariant.0 in
    let p = c.pass_plain.ensures in
    let e = comes g d in
    let S = c.loop-steps.self.schema.now in
    let schema = ap (λ (x : Walk). x.schema.now) i.same in
    let table = ap (λ x. x.table) p.same in
    let steps = c.steps_of-steps.result.now in
    let long = ap (λ x. length (live_fields S (x.table).object)) p.same in
    let room = c.has_room.ensures c.loop-steps-test.true in (
      at_step steps _ (its g d) (e.field).within (λ f here.
          record {
            many = c.requires.0;
            at = e.field;
            rests = ap (λ x. (x.row).left) p.same ∙ c.loop-steps.invariant.1;
            here = here;
            act = e.open-field f (rw (ap (λ (x : Table). live_fields S x.object) table) at here);
            room = fewer_reads (c.loop-steps.self.limits).reads _ _ (omega (arith, e.paid, e.within, long)) room.more;
            short = omega (arith, e.paid, e.within, long, room.short);
          }),
      c.requires.1.1.1.1 ∙ sym (ap (λ (x : Walk). x.checks) i.same),
    )

pub loop-steps-preserved : goal.loop-steps-preserved
loop-steps-preserved g c =
    let d = (goal.at.loop-steps-preserved g c).In-Ok-true in
    let i = c.loop-steps.invariant.0 in
    let p = c.pass_plain.ensures in
    field_over _ _ _ _ _ _ _ i.same (p.bytes ∙ i.bytes) _ _ _ c.go_into.new.child (ap (λ x. x.table) p.same ∙ i.table) (omega (arith, i.grows, p.grows)) (falls g d) (rw c.in-Up.is at c.go_into.ensures)

pub returns-in_default : goal.returns-in_default
returns-in_default g c =
    let d = (goal.at.returns-in_default g c).In-Ok-true in
    let i = c.loop-steps.invariant.0 in
    let p = c.pass_plain.ensures in
    field_turned _ _ _ _ _ _ _ i.same (p.bytes ∙ i.bytes) _ _ _ _ (ap (λ x. x.table) p.same ∙ i.table) (omega (arith, i.grows, p.grows)) (falls g d) c.go_into.result c.in_default.not-Up c.go_into.ensures

pub stop_in_field-requires-clause-next : goal.stop_in_field-requires-clause-next
stop_in_field-requires-clause-next g c = rw (ap (λ (x : Frame). x.table) c.pass_plain.ensures.same) (c.in-Err.ensures.comes).next
