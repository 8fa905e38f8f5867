use Rattle.fb_strict.specs.Leading.{MemberLeads, Added}
use Rattle.fb_strict.proofs.leads.Chains.add_members.Given as goal

abbrev pub invariant-loop-value : goal.invariant-loop-value
invariant-loop-value g l = Added l.union (MemberLeads l.schema l.union l.value) l.fn.self.lasts.items l.fn.self.edges.items l.self.lasts.items l.self.edges.items
