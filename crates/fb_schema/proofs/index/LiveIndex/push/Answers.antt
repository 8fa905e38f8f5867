use Rattle.std.proofs.Common.{Some, map, length, max, refl, ap, subst, sym, ◌∙◌, arith}
use Rattle.fb_schema.specs.{Index.view_name, Index.AreNextRequired, FlatLists.lists_of, Sorting.IsOrderOf, Sorting.name_cmp}
use Rattle.fb_schema.specs.{Steps.chain_of, Steps.sorts_of, Live.live_in, Live.live_of_view, Live.widest_of}
use Rattle.fb_schema.proofs.IndexLemmas.{on_ok, with_made, matched_pushed, lists_more, value_more, widest_end}
use Rattle.fb_schema.proofs.index.LiveIndex.push.Goals as goal

pub returns : goal.returns
returns g c = λ rows all o before live long.
    let fields = c.args.fields.now in
    on_ok c.push-2.result _ _ (λ pushed. record {
      live = lists_more (map live_of_view) (λ o. live_in rows (Some o)) all o (lists_of c.args.self.now.fields) _ fields before.live pushed live;
      names = with_made c.in_order.result _ _ _ c.in_ok-push_made.ensures c.in_order.ensures
          (λ order more is. matched_pushed (λ fields order. IsOrderOf name_cmp (map view_name fields) order) (lists_of c.args.self.now.fields) _ (lists_of c.args.self.now.names) _ fields order.items before.names pushed more is);
      steps = with_made c.field_steps.result _ _ _ c.in_ok-push_made-2.ensures c.field_steps.ensures
          (λ steps more is. value_more (λ o. chain_of (live_in rows (Some o))) all o (lists_of c.args.self.now.steps) _ steps.items before.steps more (is ∙ ap chain_of live));
      sorts = value_more (λ o. sorts_of (live_in rows (Some o))) all o c.args.self.now.sorts.items _ c.sorts_of.result before.sorts c.in_ok-push.ensures.items (c.sorts_of.ensures ∙ ap sorts_of live);
      next_required = with_made c.next_required.result _ _ _ c.in_ok-push_made-3.ensures c.next_required.ensures
          (λ places more is. matched_pushed (λ o places. AreNextRequired (live_in rows (Some o)) places) all _ (lists_of c.args.self.now.next_required) _ o places.items before.next_required refl more (subst (λ ls. AreNextRequired ls places.items) live is));
      widest = c.max-self.ensures ∙ ap (λ n. max n (length fields)) before.widest ∙ ap (max (widest_of all)) long ∙ sym (widest_end all o);
      few = omega (arith, c.max-self.ensures, before.few, c.requires);
    }) c.push-2.ensures
