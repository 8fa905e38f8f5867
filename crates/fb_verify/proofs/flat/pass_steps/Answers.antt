use Rattle.std.proofs.Common.{◌≡◌, ℕ, ◌-◌, List, map, drop, length, option_map, slice_get, refl, sym, ◌∙◌, ap, arith, Some}
use Rattle.std.proofs.lemmas.{List.length-map, List.length-drop, List.take_all, Option.slice_get-map}
use Rattle.fb_bytes.specs.Word.{Lent}
use Rattle.fb_schema.specs.{Rows.Rows, Live.Live, Live.live_fields, Live.next_required, Steps.step_of, declared.views.Step.Step}
use Rattle.fb_schema.proofs.Numbers.{slice_get_some}
use Rattle.fb_rules.specs.{declared.fault.Reason.Reason, declared.plain.Came.Came}
use Rattle.fb_rules.specs.declared.{plain.Came.TheVariants.Past, plain.Came.TheVariants.ToEnd, plain.Came.TheVariants.ToField, plain.Came.TheVariants.ToFault, table.Table.Table}
use Rattle.fb_verify.specs.{PassesOn.EndsBehind, PassesOn.CameTo, Stack.Waiting, declared.scratch.Frame.Frame, declared.stack.Walk.Walk}
use Rattle.fb_verify.proofs.{Passing.AtStep, Passing.required_within, Passing.required_stops, Smalls.ends_all, Smalls.ends_absent}
use Rattle.fb_verify.proofs.flat.pass_steps.Goals.{After-next_required}
use Rattle.fb_verify.proofs.flat.pass_steps.Goals as goal

-- where fields were passed that neither lead on nor fail, the rest lies behind the vtable
ends : (w : Walk) (m new : Lent) (under : Waiting) (top past : Frame) (at : ℕ) (came : Came) → (came ≡ ToField → ⊥) → ((reason : Reason) → came ≡ ToFault reason → ⊥) → CameTo w m new under top past at came → EndsBehind w m new under top past
ends w m new under top past at Past leads fails h = absurd h
ends w m new under top past at ToEnd leads fails h = h
ends w m new under top past at ToField leads fails h = absurd (leads refl)
ends w m new under top past at (ToFault reason) leads fails h = absurd (fails reason refl)

-- as many steps as fields of the top's object
all_steps : {steps : List Step} (S : Rows) (table : Table) (top : Frame) → table ≡ top.table → steps ≡ map step_of (live_fields S table.object) → length steps ≡ length (live_fields S (top.table).object)
all_steps S table top same its = ap length its ∙ length-map (live_fields S table.object) step_of ∙ ap (λ (x : Table). length (live_fields S x.object)) same

pub pass_by-came-requires : goal.pass_by-came-requires
pass_by-came-requires g c =
    let S = (g.of).walk.schema.now in
    let steps = c.requires.1.1.1.1.1.1.0 ∙ ap (λ (x : Table). map step_of (live_fields S x.object)) c.requires.1.1.1.1.0 in
    let all = c.args.steps.now in
    let n = c.args.next.now in
    let left = take_all (length all - n) (drop n all) (omega (arith, length-drop n all)) ∙ ap (λ k. drop k all) c.requires.1.1.1.1.1.0 ∙ ap (drop (g.of).top.next) steps in
    (c.requires.0, (c.requires.1.0, (c.requires.1.1.0, (c.requires.1.1.1.1.0, left))))

pub returns-in-ToField : goal.returns-in-ToField
returns-in-ToField g c = rw (all_steps (g.of).walk.schema.now c.args.table (g.of).top c.requires.1.1.1.1.0 c.requires.1.1.1.1.1.1.0) c.in-ToField.ensures.came

pub returns-in-ToFault : goal.returns-in-ToFault
returns-in-ToFault g c = rw (all_steps (g.of).walk.schema.now c.args.table (g.of).top c.requires.1.1.1.1.0 c.requires.1.1.1.1.1.1.0) c.in-ToFault.ensures.came

-- the steps are those of the top's fields
steps_are : (g : _) (c : After-next_required g) → c.args.steps.now ≡ map step_of (live_fields (g.of).walk.schema.now ((g.of).top.table).object)
steps_are g c = rw c.requires.1.1.1.1.0 at c.requires.1.1.1.1.1.1.0

many : (g : _) (c : After-next_required g) → length c.args.steps.now ≡ length (live_fields (g.of).walk.schema.now ((g.of).top.table).object)
many g c = ap length (steps_are g c) ∙ length-map (live_fields (g.of).walk.schema.now ((g.of).top.table).object) step_of

-- the frame at the first of these
abbrev past : (g : _) (c : After-next_required g) → Frame
past g c = record (g.of).top { next = length (live_fields (g.of).walk.schema.now ((g.of).top.table).object) - c.pass_by-came.new.left }

behind : (g : _) (c : After-next_required g) → EndsBehind (g.of).walk c.args.reads.now c.pass_by-came.new.reads (g.of).under (g.of).top (past g c)
behind g c = ends _ _ _ _ _ _ _ c.pass_by-came.result c.in_default.not-ToField c.in_default.not-ToFault c.pass_by-came.ensures.came

-- the first of these
first : (g : _) (c : After-next_required g) → (f : Live) × (slice_get (live_fields (g.of).walk.schema.now ((g.of).top.table).object) (past g c).next ≡ Some f)
first g c =
    slice_get_some (live_fields (g.of).walk.schema.now ((g.of).top.table).object) (past g c).next
    (omega (arith, many g c, c.pass_by-came.ensures.left, c.if-left-eq0.false, ap length (steps_are g c), length-drop (g.of).top.next c.args.steps.now))

here : (g : _) (c : After-next_required g) → AtStep (g.of).walk c.pass_by-came.new.reads (g.of).under (past g c) c.args.steps.now (step_of (first g c).0)
here g c =
    let e = behind g c in
    let got = ap (λ xs. slice_get xs (past g c).next) (steps_are g c) ∙ slice_get-map step_of (live_fields (g.of).walk.schema.now ((g.of).top.table).object) (past g c).next ∙ ap (option_map step_of) (first g c).1 in
    search (e, got, steps_are g c)

-- the schema is the walk's
looks : (g : _) (c : After-next_required g) → c.next_required.result ≡ next_required (g.of).walk.schema.now ((g.of).top.table).object (past g c).next
looks g c = rw (c.requires.1.1.1.0, c.requires.1.1.1.1.0, many g c) at c.next_required.ensures

pub returns-in_default-next_required : goal.returns-in_default-next_required
returns-in_default-next_required g c =
    let d = (goal.at.returns-in_default-next_required g c).After-next_required in
    let e = behind g d in
    let f = first g d in
    rw (many g d) (ends_absent _ _ _ _ _ _ _ f.0 f.1 e (sym (looks g d) ∙ c.in_default-next_required.is))

pub returns-in-Some : goal.returns-in-Some
returns-in-Some g c =
    let d = (goal.at.returns-in-Some g c).After-next_required in
    let e = behind g d in
    let s = here g d in
    let some = sym (looks g d) ∙ c.in-Some.is in
    let next = required_within s c.in-Some.needed some in
    let err = rw e.bytes at (required_stops s (e.behind _ (first g d).1) c.in-Some.needed some) in
    rw c.requires.1.1.1.1.0 (record { comes = record { next = next; err = err }; same = refl; grows = e.grows; bytes = e.bytes })

pub returns-then-left-eq0 : goal.returns-then-left-eq0
returns-then-left-eq0 g c =
    let behind = ends _ _ _ _ _ _ _ c.pass_by-came.result c.in_default.not-ToField c.in_default.not-ToFault c.pass_by-came.ensures.came in
    rw (all_steps (g.of).walk.schema.now c.args.table (g.of).top c.requires.1.1.1.1.0 c.requires.1.1.1.1.1.1.0) (ends_all _ _ _ _ _ _ _ (omega (arith, c.if-left-eq0.true)) behind)
