use Rattle.std.proofs.Common.{sym, ◌∙◌}
use Rattle.fb_strict.specs.Leading.{MemberLeads}
use Rattle.fb_strict.proofs.Leading.{none_have, have_more, have_same, no_member_leads}
use Rattle.fb_strict.proofs.leads.Chains.of_members.Goals as goal
use Rattle.fb_strict.proofs.leads.Chains.of_members.Goals.{then-is_union+in_ok-add_members, else-is_union}

-- src/leads.rt
pub loop-union-init : goal.loop-union-init
loop-union-init g c = none_have (λ e t. MemberLeads c.args.schema.now e 256 t) c.new-chains.result.lasts.items c.new-chains.result.edges.items c.new-chains.ensures

pub loop-union-preserved : goal.loop-union-preserved
loop-union-preserved g c =
    let S = c.args.schema.now in
    let n = c.loop-union.union in
    let lasts = c.loop-union.chains.lasts.items in
    let edges = c.loop-union.chains.edges.items in
    elim c.if-is_union.branch [
      | then-is_union+in_ok-add_members w ↦ rw (w.chains-is) (have_more (λ e t. MemberLeads S e 256 t) n lasts edges c.loop-union.invariant w.add_members.new.self.lasts.items w.add_members.new.self.edges.items w.in_ok-add_members.ensures)
      | else-is_union w ↦ rw (w.chains-is) (have_same (λ e t. MemberLeads S e 256 t) n lasts edges c.loop-union.invariant (λ t. no_member_leads S n 256 t (sym c.is_union.ensures ∙ w.if-is_union.false)))
    ]
