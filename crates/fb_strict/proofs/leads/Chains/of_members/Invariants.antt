use Rattle.fb_strict.specs.Leading.{HaveBelow, MemberLeads}
use Rattle.fb_strict.proofs.leads.Chains.of_members.Given as goal

abbrev pub invariant-loop-union : goal.invariant-loop-union
invariant-loop-union g l = HaveBelow (λ e t. MemberLeads l.schema e 256 t) l.union l.chains.lasts.items l.chains.edges.items
