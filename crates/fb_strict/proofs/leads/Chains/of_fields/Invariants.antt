use Rattle.fb_strict.specs.Leading.{HaveBelow, Names}
use Rattle.fb_strict.proofs.leads.Chains.of_fields.Given as goal

abbrev pub invariant-loop-object : goal.invariant-loop-object
invariant-loop-object g l = HaveBelow (Names l.ends l.schema) l.object l.chains.lasts.items l.chains.edges.items
