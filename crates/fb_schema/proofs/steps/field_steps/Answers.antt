use Rattle.std.proofs.Common.{◌≡◌, ◌∙◌, ◌++◌, ◌∷◌, [], ap, sym, map, take_all, get_or, arith}
use Rattle.std.proofs.lemmas.Simd.{map-map}
use Rattle.fb_schema.specs.{Live.live_of_view, Steps.step_of, Steps.end_step}
use Rattle.fb_schema.proofs.{Blank.blank_view, Numbers.get_or_default, IndexLemmas.value_step}
use Rattle.fb_schema.proofs.steps.field_steps.Goals as goal

pub loop-field-preserved : goal.loop-field-preserved
loop-field-preserved g c =
    let fields = c.args.fields.now in
    let i = c.loop-field.field-index in
    let x = get_or fields i blank_view in
    value_step (λ f. step_of (live_of_view f)) fields i x c.loop-field.steps.items _ c.step_of.result c.loop-field-test.true (get_or_default fields i blank_view x c.loop-field-test.true) c.loop-field.invariant c.in_ok-push.ensures.items c.step_of.ensures

pub returns : goal.returns
returns g c =
    let fields = c.args.fields.now in
    let all : c.loop-field.steps.items ≡ map step_of (map live_of_view fields) = c.loop-field.invariant ∙ ap (map (λ f. step_of (live_of_view f))) (take_all c.loop-field.field-index fields (omega (arith, c.loop-field-test.false))) ∙ sym (map-map step_of live_of_view fields) in
    c.in_ok-push-2.ensures.items ∙ ap (λ steps. steps ++ end_step ∷ []) all
