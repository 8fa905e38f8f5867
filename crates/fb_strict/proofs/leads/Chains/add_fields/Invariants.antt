use Rattle.std.proofs.Common.{map, take}
use Rattle.fb_schema.specs.Live.{live_of_view}
use Rattle.fb_strict.specs.Leading.{OneOf, KindNames, Added}
use Rattle.fb_strict.proofs.leads.Chains.add_fields.Given as goal

abbrev pub invariant-loop-field : goal.invariant-loop-field
invariant-loop-field g l = Added l.object (OneOf (KindNames l.ends) (map live_of_view (take l.field-index l.fields))) l.fn.self.lasts.items l.fn.self.edges.items l.self.lasts.items l.self.edges.items
