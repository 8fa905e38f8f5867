use Rattle.std.proofs.Common.{◌∙◌, is_ok}
use Rattle.fb_schema.proofs.FlatLemmas.{pushed, within_tried}
use Rattle.fb_schema.proofs.lists.Lists.push.Goals as goal

pub invariant_of-self-2 : goal.invariant_of-self-2
invariant_of-self-2 g c = record {
  within = within_tried c.args.self.now.rows.items c.args.list.now _ c.args.self.now.ranges.items _ c.len-start.result c.len.result (is_ok c.push.result) c.args.self.now.within
      c.in_ok-extend_from_slice.ensures.items c.push.ensures.items (c.len-start.ensures ∙ c.args.self.now.rows.ok.0) (c.len.ensures ∙ c.extend_from_slice.new.self.ok.0);
}

pub returns : goal.returns
returns g c =
    let start = c.len-start.ensures ∙ c.args.self.now.rows.ok.0 in
    let end = c.len.ensures ∙ c.extend_from_slice.new.self.ok.0 in
    pushed (λ r. r) (λ r list. list) c.args.self.now.rows.items c.args.list.now _ c.args.self.now.ranges.items _ (c.len-start.result, c.len.result) c.args.self.now.within
    c.in_ok-extend_from_slice.ensures.items c.in_ok-push.ensures.items (λ i. (start i, end i))
