use Rattle.std.proofs.Common.{map, subst, ◌∙◌}
use Rattle.fb_schema.specs.{Demands.IsLegal, FlatRows.flat_rows, Index.IsLiveIndex, Index.IsMemberIndex, Rows.Rows, Sorting.IsOrderOf, Sorting.name_cmp, Sorting.object_name}
use Rattle.fb_schema.proofs.LookLemmas.{lent_same}
use Rattle.fb_schema.proofs.schema.Schema.build.Goals as goal

pub invariant_of-result : goal.invariant_of-result
invariant_of-result g c =
    let flat = c.in_ok-rows.rows in
    let lent = c.lists.result in
    let is = c.lists.ensures in
    let index = c.in_ok-index.index in
    let made = c.in_ok-index.ensures.made in
    let same = lent_same flat lent is.objects is.fields is.enums is.members in
    record {
      parts = c.in_ok-rows.ensures.parts;
      legal = subst IsLegal same made.legal;
      names = subst (λ os. IsOrderOf name_cmp (map object_name os) index.order.items) is.objects made.names;
      fields = subst (λ (r : Rows). IsLiveIndex r r.objects index.live) same made.fields;
      kinds = subst (λ ms. IsMemberIndex (flat_rows flat) ms flat.enums.items index.members) is.members
          (subst (λ es. IsMemberIndex (flat_rows flat) lent.members.now es index.members) is.enums
          (subst (λ r. IsMemberIndex r lent.members.now lent.enums.now index.members) same made.kinds));
    }

pub returns-clause-legal : goal.returns-clause-legal
returns-clause-legal g c = let is = c.lists.ensures in subst IsLegal (lent_same c.in_ok-rows.rows c.lists.result is.objects is.fields is.enums is.members ∙ c.in_ok-rows.ensures.value) c.in_ok-index.ensures.made.legal
