use Rattle.std.proofs.Common.{◌≡◌, ◌≤◌, ◌<◌, ◌%◌, ◌+◌, ℕ, inr, Ok, false, ◌-◌, ◌∷◌, [], length, List, Some, true, refl, sym, ◌∙◌, ap, arith, inl, map, get_or}
use Rattle.std.specs.Prelude.{slice_get, option_map}
use Rattle.std.proofs.lemmas.{Option.slice_get_within, Option.slice_get-map, List.length-append, List.length-map}
use Rattle.fb_schema.proofs.Numbers.{le_or_lt, slice_get_some}
use Rattle.fb_schema.specs.{Rows.Rows, Live.Live, Live.live_fields, Steps.step_of, Steps.chain_of, Steps.end_step, Steps.are_small, declared.views.Step.Step, declared.views.Act.TheVariants.One}
use Rattle.fb_rules.specs.{Alike.IsSmallStep, Plain.HasBit, Plain.IsStep, Plain.StepBehind, declared.table.Table.Table}
use Rattle.fb_rules.specs.declared.plain.{Came.Came, Came.TheVariants.Past, Came.TheVariants.ToEnd, Came.TheVariants.ToField, Came.TheVariants.ToFault}
use Rattle.fb_rules.proofs.Plains.{small_at, kind_step, bit_at}
use Rattle.fb_verify.specs.PassesOn.{IsBetween, PassesOn}
use Rattle.fb_verify.specs.{Stack.Waiting, declared.scratch.Frame.Frame, declared.stack.Walk.Walk}
use Rattle.fb_bytes.specs.Word.{Lent}
use Rattle.fb_rules.specs.{Places.vtable_size, declared.fault.Reason.Reason}
use Rattle.fb_verify.proofs.{Passing.AtStep, Passing.step_by, Passing.came_to, Passing.ends_behind, Passing.GoesBy, Smalls.chain_has, Smalls.small_none, Smalls.ends_all, Smalls.ends_absent}
use Rattle.fb_verify.proofs.flat.pass_small_steps.Goals as goal

-- what holds of each field's step, and of the one behind the last, holds of the one that comes
module _ (S : Rows) (table top : Table) (chain : List Step) (i : ℕ) (d : Step) (same : table ≡ top) (is : chain ≡ chain_of (live_fields S table.object)) (within : i ≤ length (live_fields S top.object)) where
  asked : (P : Step → Type 0) → ((f : Live) → slice_get (live_fields S top.object) i ≡ Some f → P (step_of f)) → P end_step → P (get_or chain i d)
  asked P field end = rw (is, same) (chain_has P (live_fields S top.object) i d within field (λ _. end))

  -- it is that of a field, unless its slot lies behind each vtable
  inside : (r : Came) → ((get_or chain i d).slot ≡ 65534 → r ≡ ToEnd) → (r ≡ ToEnd → ⊥) → (f : Live) × (slice_get (live_fields S top.object) i ≡ Some f) × (get_or chain i d ≡ step_of f)
  inside r ends other =
      asked (λ s. (s.slot ≡ 65534 → r ≡ ToEnd) → (f : Live) × (slice_get (live_fields S top.object) i ≡ Some f) × (s ≡ step_of f)) (λ f at _. (f, at, refl)) (λ h. absurd (other (h refl))) ends

  its : (f : Live) → slice_get (live_fields S top.object) i ≡ Some f → get_or chain i d ≡ step_of f
  its f at =
      rw (is, same) (chain_has (λ s. s ≡ step_of f) (live_fields S top.object) i d within (λ f' at'. let w : Some f' ≡ Some f = sym at' ∙ at in let one : f' ≡ f = cc in ap step_of one) (λ e. absurd (omega (arith, e, slice_get_within (live_fields S top.object) i f at))))

long : (S : Rows) (table top : Table) (chain : List Step) → table ≡ top → chain ≡ chain_of (live_fields S table.object) → length chain - 1 ≡ length (live_fields S top.object)
long S table top chain same is = omega (arith, rw same at (ap length is), length-append (map step_of (live_fields S top.object)) (end_step ∷ []), length-map (live_fields S top.object) step_of)

-- the walk is at the step of that field
here : {w : Walk} {m : Lent} {under : Waiting} (top : Frame) (i : ℕ) (s : Step) → IsBetween w m under (record top { next = i }) → (f : Live) → slice_get (live_fields w.schema.now (top.table).object) i ≡ Some f → s ≡ step_of f
    → AtStep w m under (record top { next = i }) (map step_of (live_fields w.schema.now (top.table).object)) s
here {w} {m} {under} top i s b f at is = record {
  walking = b.walking;
  rests = b.rests;
  all = refl;
  got = slice_get-map step_of (live_fields w.schema.now (top.table).object) i ∙ ap (option_map step_of) at ∙ ap Some (sym is);
}

pub pass_small_step-requires-clause-small : goal.pass_small_step-requires-clause-small
pass_small_step-requires-clause-small g c =
    let S = (g.of).walk.schema.now in
    let r = c.requires in
    asked S c.args.table (g.of).top.table c.args.chain.now c.loop-here.here _ r.1.1.1.1.0 r.1.1.1.1.1.1.0 c.loop-here.invariant.within IsSmallStep
    (λ f at. small_at (live_fields S ((g.of).top.table).object) c.loop-here.here f (rw r.1.1.1.1.0 at r.1.1.1.1.1.1.1.1) at) (inl refl)

pub pass_small_step-requires-clause-step : goal.pass_small_step-requires-clause-step
pass_small_step-requires-clause-step g c =
    let S = (g.of).walk.schema.now in
    let r = c.requires in
    let kinds = ((((c.loop-here.invariant).between).walking).served).kinds ((g.of).top.table).object c.loop-here.here in
    asked S c.args.table (g.of).top.table c.args.chain.now c.loop-here.here _ r.1.1.1.1.0 r.1.1.1.1.1.1.0 c.loop-here.invariant.within (λ s. IsStep s s.act) (λ f at. kind_step S f f.kind (kinds f at)) refl

pub pass_small_step-requires-clause-bit : goal.pass_small_step-requires-clause-bit
pass_small_step-requires-clause-bit g c =
    let r = c.requires in
    asked (g.of).walk.schema.now c.args.table (g.of).top.table c.args.chain.now c.loop-here.here _ r.1.1.1.1.0 r.1.1.1.1.1.1.0 c.loop-here.invariant.within (λ s. HasBit s s.act) (λ f at. bit_at (step_of f) f f.kind refl) refl

pub pass_small_step-requires-clause-even : goal.pass_small_step-requires-clause-even
pass_small_step-requires-clause-even g c =
    let r = c.requires in
    let even = ((((c.loop-here.invariant).between).walking).served).even ((g.of).top.table).object c.loop-here.here in
    asked (g.of).walk.schema.now c.args.table (g.of).top.table c.args.chain.now c.loop-here.here _ r.1.1.1.1.0 r.1.1.1.1.1.1.0 c.loop-here.invariant.within (λ s. s.slot % 2 ≡ 0) even refl

pub loop-here-preserved : goal.loop-here-preserved
loop-here-preserved g c =
    let S = (g.of).walk.schema.now in
    let r = c.requires in
    let i = c.loop-here.invariant in
    let x = inside S c.args.table (g.of).top.table c.args.chain.now c.loop-here.here _ r.1.1.1.1.0 r.1.1.1.1.1.1.0 i.within c.pass_small_step.result c.pass_small_step.ensures.ends (λ e. let w : Past ≡ ToEnd = sym c.in-Past.is ∙ e in cc) in
    let passed = rw (r.1.1.0, r.1.1.1.1.0, c.in-Past.is) at c.pass_small_step.ensures.stepped in
    let on = step_by i.goes (here (g.of).top c.loop-here.here _ i.between x.0 x.1 x.2) c.pass_small_step.new.reads c.pass_small_step.new.at passed in
    record { base = (passed.tested).base ∙ i.base; within = omega (arith, slice_get_within (live_fields S ((g.of).top.table).object) c.loop-here.here x.0 x.1); between = on.0; goes = on.1 }

pub returns-in-ToFault : goal.returns-in-ToFault
returns-in-ToFault g c =
    let S = (g.of).walk.schema.now in
    let r = c.requires in
    let i = c.loop-here.invariant in
    let x = inside S c.args.table (g.of).top.table c.args.chain.now c.loop-here.here _ r.1.1.1.1.0 r.1.1.1.1.1.1.0 i.within c.pass_small_step.result c.pass_small_step.ensures.ends (λ e. let w : ToFault c.in-ToFault.reason ≡ ToEnd = sym c.in-ToFault.is ∙ e in cc) in
    let failed = rw (r.1.1.0, r.1.1.1.1.0, c.in-ToFault.is) at c.pass_small_step.ensures.stepped in
    came_to i.goes (here (g.of).top c.loop-here.here _ i.between x.0 x.1 x.2) c.pass_small_step.new.reads c.pass_small_step.new.at (ToFault c.in-ToFault.reason) (λ e. let w : ToFault c.in-ToFault.reason ≡ Past = e in cc) failed

-- what is left is the end
at_end : (r : Came) → (r ≡ Past → ⊥) → ((reason : Reason) → r ≡ ToFault reason → ⊥) → (r ≡ ToField → ⊥) → r ≡ ToEnd
at_end Past past fault field = absurd (past refl)
at_end ToEnd past fault field = refl
at_end ToField past fault field = absurd (field refl)
at_end (ToFault reason) past fault field = absurd (fault reason refl)

-- so the walk came to where the others lie behind the vtable, or to the last one
ends_small : {w : Walk} {m new : Lent} {under : Waiting} {top : Frame} {i at : ℕ} → are_small (live_fields w.schema.now (top.table).object) ≡ true → i ≤ length (live_fields w.schema.now (top.table).object)
    → IsBetween w new under (record top { next = i }) → GoesBy w m new top i
    → ((f : Live) → slice_get (live_fields w.schema.now (top.table).object) i ≡ Some f → vtable_size new.bytes (top.table).at < f.slot + 2)
    → PassesOn w m new under top (record top { next = length (live_fields w.schema.now (top.table).object) }) at (Ok false)
ends_small {w} {m} {new} {under} {top} {i} {at} small le between goes behind =
    let fs = live_fields w.schema.now (top.table).object in
    let e = ends_behind goes between le behind in
    elim (le_or_lt (length fs) i) [
      | inl all ↦ (let one : length fs ≡ i = omega (arith, all, le) in rw one (ends_all w m new under top at i all e))
      | inr less ↦ (let f = slice_get_some fs i less in ends_absent w m new under top at i f.0 f.1 e (small_none fs i small))
    ]

-- what stands past the end of a chain
abbrev blank : Step
blank = record { act = One; required = false; slot = 0; bit = 0; size = 0; align = 0 }

pub returns-in_default : goal.returns-in_default
returns-in_default g c =
    let w = (g.of).walk in
    let top = (g.of).top in
    let r = c.requires in
    let i = c.loop-here.invariant in
    let chain = c.args.chain.now in
    let end = at_end c.pass_small_step.result c.in_default.not-Past c.in_default.not-ToFault c.pass_small_step.ensures.leads in
    let e : StepBehind c.loop-here.reads c.pass_small_step.new.reads (top.table).at (get_or chain c.loop-here.here blank) = rw (r.1.1.1.1.0, end) at c.pass_small_step.ensures.stepped in
    let slot = its w.schema.now c.args.table top.table chain c.loop-here.here blank r.1.1.1.1.0 r.1.1.1.1.1.1.0 i.within in
    let small : are_small (live_fields w.schema.now (top.table).object) ≡ true = rw r.1.1.1.1.0 at r.1.1.1.1.1.1.1.1 in
    let behind : (f : Live) → slice_get (live_fields w.schema.now (top.table).object) c.loop-here.here ≡ Some f → vtable_size c.loop-here.reads.bytes (top.table).at < f.slot + 2 = λ f at. omega (arith, e.past, ap (λ (s : Step). s.slot) (slot f at)) in
    let done : PassesOn w c.args.reads.now c.loop-here.reads (g.of).under top (record top { next = length (live_fields w.schema.now (top.table).object) }) c.loop-here.at (Ok false) = ends_small small i.within i.between i.goes behind in
    rw (long w.schema.now c.args.table top.table chain r.1.1.1.1.0 r.1.1.1.1.1.1.0, e.same) done
