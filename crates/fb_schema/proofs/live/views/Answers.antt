use Rattle.std.proofs.Common.{map, filter_map, take_all, get_or, Some, IsSome, option_map, length, sym, ap, subst, ◌∙◌}
use Rattle.std.proofs.lemmas.Option.{slice_get-get_or}
use Rattle.fb_schema.specs.{Live.live_as, Live.live_of, Live.live_of_view, FlatRows.borrowed_rows, Rows.field_of}
use Rattle.fb_schema.proofs.{Blank.blank_field, IndexLemmas.few_step, Kept.kept_step, TargetLemmas.long_step, WalkLemmas.mapped_at}
use Rattle.fb_schema.proofs.live.views.Goals as goal

pub unwrap-kind-requires : goal.unwrap-kind-requires
unwrap-kind-requires g c =
    let live = c.args.live.now in
    let i = c.loop-field.field-index in
    let x = get_or live i blank_field in
    subst IsSome (sym c.kind_of.ensures) (c.requires.kinds.at i (field_of x) (mapped_at field_of live i x (slice_get-get_or live i blank_field c.loop-field-test.true)))

pub loop-field-preserved : goal.loop-field-preserved
loop-field-preserved g c =
    let live = c.args.live.now in
    let rows = borrowed_rows c.args.rows.now in
    let i = c.loop-field.field-index in
    let lt = c.loop-field-test.true in
    let kind = ap (option_map (live_as rows (map field_of live) (field_of (get_or live i blank_field)))) (sym c.kind_of.ensures ∙ c.unwrap-kind.ensures) in
    record {
      value = kept_step field_of (live_of rows (map field_of live)) live_of_view live i blank_field c.loop-field.views.items _ c.view_of.result lt c.loop-field.invariant.value c.in_ok-push.ensures.items (kind ∙ ap Some (sym c.view_of.ensures.value));
      long = ap length c.in_ok-push.ensures.items ∙ long_step c.loop-field.views.items c.view_of.result i c.loop-field.invariant.long;
      few = few_step live i blank_field c.requires.spaced lt c.view_of.ensures.slot;
    }

pub returns-clause-value : goal.returns-clause-value
returns-clause-value g c = c.loop-field.invariant.value ∙ ap (λ fs. filter_map (live_of (borrowed_rows c.args.rows.now) (map field_of c.args.live.now)) (map field_of fs)) (take_all c.loop-field.field-index c.args.live.now c.loop-field-test.false)
