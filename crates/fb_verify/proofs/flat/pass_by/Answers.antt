use Rattle.std.proofs.Common.{add-one, ◌≡◌, ◌+◌, ◌-◌, ◌%◌, ℕ, length, map, drop, List, sym, ◌∙◌, ap, subst, arith, slice_get, Some, refl}
use Rattle.std.proofs.lemmas.{List.length-map, List.length-drop, Option.slice_get_within}
use Rattle.fb_schema.specs.{Live.Live, Live.live_fields, Steps.step_of}
use Rattle.fb_rules.specs.Plain.{HasBit, IsStep}
use Rattle.fb_verify.specs.PassesOn.{IsBetween}
use Rattle.fb_rules.proofs.Plains.{each_step, kind_step, bit_at}
use Rattle.fb_verify.proofs.{Passing.AtStep, Passing.left_from, Passing.GoesBy, Passing.goes_first, Passing.ends_behind, Passing.step_by, Passing.came_to, flat.pass_by.Goals.In-Some}
use Rattle.fb_verify.proofs.flat.pass_by.Goals as goal

-- the live fields of the table, and the place of the one that comes
abbrev fields : (g : _) → In-Some g → List Live
fields g c = live_fields (g.of).walk.schema.now ((g.of).top.table).object

abbrev place : (g : _) → In-Some g → ℕ
place g c = length (fields g c) - length c.loop-step.rest.now

-- the step that comes stands there
stands : (g : _) (c : In-Some g) → slice_get (map step_of (fields g c)) (place g c) ≡ Some c.in-Some.step.now
stands g c = (left_from (map step_of (fields g c)) (place g c) c.in-Some.step.now c.in-Some.more.now (sym c.in-Some.ensures.cases.0 ∙ c.loop-step.invariant.rest)).0

pub pass_step-requires-clause-even : goal.pass_step-requires-clause-even
pass_step-requires-clause-even g c =
    let d = (goal.at.pass_step-requires-clause-even g c).In-Some in
    each_step (λ s. s.slot % 2 ≡ 0) (fields g d) (place g d) _ (((((c.loop-step.invariant).between).walking).served).even ((g.of).top.table).object (place g d)) (stands g d)

pub pass_step-requires-clause-bit : goal.pass_step-requires-clause-bit
pass_step-requires-clause-bit g c =
    let d = (goal.at.pass_step-requires-clause-bit g c).In-Some in
    each_step (λ s. HasBit s s.act) (fields g d) (place g d) _ (λ f _. bit_at (step_of f) f f.kind refl) (stands g d)

pub pass_step-requires-clause-step : goal.pass_step-requires-clause-step
pass_step-requires-clause-step g c =
    let d = (goal.at.pass_step-requires-clause-step g c).In-Some in
    let kinds = ((((c.loop-step.invariant).between).walking).served).kinds ((g.of).top.table).object (place g d) in
    each_step (λ s. IsStep s s.act) (fields g d) (place g d) _ (λ f here. kind_step (g.of).walk.schema.now f f.kind (kinds f here)) (stands g d)

here : (g : _) (c : In-Some g) → AtStep (g.of).walk c.loop-step.reads (g.of).under (record (g.of).top { next = place g c }) (map step_of (fields g c)) c.in-Some.step.now
here g c = record { walking = ((c.loop-step.invariant).between).walking; rests = ((c.loop-step.invariant).between).rests; all = refl; got = stands g c }

pub loop-step-init : goal.loop-step-init
loop-step-init g c =
    let fs = live_fields (g.of).walk.schema.now ((g.of).top.table).object in
    let all = c.requires.1.1.1.1 in
    let next : (g.of).top.next ≡ length fs - length c.args.steps.now = omega (arith, ap length all, length-drop (g.of).top.next (map step_of fs), length-map fs step_of, (((c.requires.0).walking).frame).next) in
    let between = subst (λ n. IsBetween (g.of).walk c.args.reads.now (g.of).under (record (g.of).top { next = n })) next c.requires.0 in
    let goes = subst (λ n. GoesBy (g.of).walk c.args.reads.now c.args.reads.now (g.of).top n) next (goes_first c.requires.1.0) in
    search (arith, all ∙ ap (λ n. drop n (map step_of fs)) next, between, goes)

pub returns-in_default-pass_step : goal.returns-in_default-pass_step
returns-in_default-pass_step g c =
    let d = (goal.at.returns-in_default-pass_step g c).In-Some in
    record {
      left = c.loop-step.invariant.within;
      came = came_to c.loop-step.invariant.goes (here g d) c.pass_step.new.reads c.pass_step.new.at c.pass_step.result c.in_default-pass_step.not-Past (rw (c.requires.1.1.0, c.requires.1.1.1.0) at c.pass_step.ensures);
    }

pub loop-step-preserved : goal.loop-step-preserved
loop-step-preserved g c =
    let d = (goal.at.loop-step-preserved g c).In-Some in
    let i = c.loop-step.invariant in
    let passed = rw (c.requires.1.1.0, c.requires.1.1.1.0, c.in-Past.is) at c.pass_step.ensures in
    let on = step_by i.goes (here g d) c.pass_step.new.reads c.pass_step.new.at passed in
    let rest = c.in-Some.ensures.cases in
    let steps = map step_of (fields g d) in
    let next : place g d + 1 ≡ length (fields g d) - length c.in-Some.more.now = omega (arith, rest.1, ap length i.rest, length-drop (place g d) steps, length-map (fields g d) step_of) in
    let left = (left_from steps (place g d) c.in-Some.step.now c.in-Some.more.now (sym rest.0 ∙ i.rest)).1 ∙ ap (λ n. drop n steps) (rw add-one at next) in
    let between = subst (λ n. IsBetween (g.of).walk c.pass_step.new.reads (g.of).under (record (g.of).top { next = n })) next on.0 in
    let goes = subst (λ n. GoesBy (g.of).walk c.args.reads.now c.pass_step.new.reads (g.of).top n) next on.1 in
    record { base = (passed.tested).base ∙ i.base; within = omega (arith, i.within, rest.1); rest = left; between = between; goes = goes }

pub returns-clause-came : goal.returns-clause-came
returns-clause-came g c =
    let i = c.loop-step.invariant in
    let fs = live_fields (g.of).walk.schema.now ((g.of).top.table).object in
    let all : length fs - length c.loop-step.rest.now ≡ length fs - 0 = omega (arith, c.in_default.ensures.cases) in
    let between = subst (λ n. IsBetween (g.of).walk c.loop-step.reads (g.of).under (record (g.of).top { next = n })) all i.between in
    let goes = subst (λ n. GoesBy (g.of).walk c.args.reads.now c.loop-step.reads (g.of).top n) all i.goes in
    ends_behind goes between (omega arith) (λ f here. absurd (omega (arith, slice_get_within fs _ _ here)))
