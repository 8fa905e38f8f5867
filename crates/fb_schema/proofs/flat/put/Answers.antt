use Rattle.std.proofs.Common.{◌<◌, ◌^◌, ◌∙◌, ◌++◌, length, ap, sym, subst}
use Rattle.fb_schema.proofs.{FlatLemmas.pushed, FlatLemmas.parts_step, IndexLemmas.value_step}
use Rattle.fb_schema.proofs.flat.put.Goals as goal

pub loop-owner-preserved : goal.loop-owner-preserved
loop-owner-preserved g c =
    let owner = c.owner-item.result in
    let all = c.loop-owner.rows.items in
    let own = g.O.Owner.rows_of owner in
    let range_of = g.O.Owner.range_of in
    let parts = c.loop-owner.invariant.parts in
    let more = c.in_ok-extend_from_slice.ensures.items ∙ ap (λ z. all ++ z) c.rows.ensures.value in
    let start = c.len-start.ensures ∙ c.loop-owner.rows.ok.0 in
    let end = c.len.ensures ∙ c.extend_from_slice.new.self.ok.0 in
    let range = c.part.ensures.range ∙ (λ i. (start i, end i)) in
    let least = subst (λ o. g.O.Owner.count o < 2 ^ 31) (sym c.owner-item.is) (c.requires.few c.loop-owner.owner-index owner c.loop-owner-test.true) in
    let few : length own < 2 ^ 31 = subst (λ n. n < 2 ^ 31) (sym c.rows.ensures.count ∙ ap length c.rows.ensures.value) least in
    record {
      value = value_step g.O.Owner.whole c.args.owners.now c.loop-owner.owner-index owner _ _ _ c.loop-owner-test.true c.owner-item.is c.loop-owner.invariant.value
          (pushed range_of g.O.Owner.with_rows all own _ c.loop-owner.parts.items _ _ (λ k d lt. let p = parts k d lt in (p.ordered, p.within)) more c.in_ok-push.ensures.items range) c.part.ensures.same;
      parts = parts_step range_of all own _ c.loop-owner.parts.items _ _ parts more c.in_ok-push.ensures.items range few;
    }
