use Rattle.std.proofs.Common.{◌≡◌, false, true, get_or, sym, ◌∙◌, ap}
use Rattle.fb_schema.specs.{Live.Live, Live.live_of_view, Steps.act_of, Steps.is_plain_act, Steps.is_small_act}
use Rattle.fb_schema.proofs.{Blank.blank_view, IndexLemmas.acts_step}
use Rattle.fb_schema.proofs.steps.sorts_of.Goals as goal
use Rattle.fb_schema.proofs.steps.sorts_of.Goals.{then-not-is_plain_act, else-not-is_plain_act, then-not-is_small_act, else-not-is_small_act}

pub loop-field-preserved : goal.loop-field-preserved
loop-field-preserved c =
    let fields = c.args.fields.now in
    let i = c.loop-field.field-index in
    let lt = c.loop-field-test.true in
    let f : Live = live_of_view (get_or fields i blank_view) in
    let plain : is_plain_act (act_of f f.kind) ≡ c.is_plain_act.result = sym (c.is_plain_act.ensures ∙ ap is_plain_act c.act_of-act.ensures) in
    let small : is_small_act (act_of f f.kind) ≡ c.is_small_act.result = sym (c.is_small_act.ensures ∙ ap is_small_act c.act_of-act.ensures) in
    record {
      plain = elim c.if-not-is_plain_act.branch [
        | then-not-is_plain_act w ↦ w.plain-is ∙ sym (acts_step is_plain_act live_of_view fields i blank_view false lt (plain ∙ w.if-not-is_plain_act.true))
        | else-not-is_plain_act w ↦ w.plain-is ∙ c.loop-field.invariant.plain ∙ sym (acts_step is_plain_act live_of_view fields i blank_view true lt (plain ∙ w.if-not-is_plain_act.false))
      ];
      small = elim c.if-not-is_small_act.branch [
        | then-not-is_small_act w ↦ w.small-is ∙ sym (acts_step is_small_act live_of_view fields i blank_view false lt (small ∙ w.if-not-is_small_act.true))
        | else-not-is_small_act w ↦ w.small-is ∙ c.loop-field.invariant.small ∙ sym (acts_step is_small_act live_of_view fields i blank_view true lt (small ∙ w.if-not-is_small_act.false))
      ];
    }
