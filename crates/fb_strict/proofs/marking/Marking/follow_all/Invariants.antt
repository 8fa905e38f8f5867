use Rattle.std.proofs.Common.{◌+◌, ◌-◌, length, not}
use Rattle.std.specs.List.{count_by}
use Rattle.fb_strict.specs.{Demanded.demanded, Leading.Leads}
use Rattle.fb_strict.proofs.Queues.{FollowedFirst}
use Rattle.fb_strict.proofs.marking.Marking.follow_all.Given as goal

abbrev pub invariant-loop-passed : goal.invariant-loop-passed
invariant-loop-passed g l = FollowedFirst (demanded l.fn.demands l.fn.holdings) l.schema (Leads l.leads.tables.lasts.items l.leads.tables.edges.items l.leads.unions.lasts.items l.leads.unions.edges.items l.leads.members.lasts.items l.leads.members.edges.items) l.self.marks.items l.self.queue.items l.passed

-- what isn't marked, and what isn't followed
abbrev pub decreases-loop-passed : goal.decreases-loop-passed
decreases-loop-passed g l = count_by not l.self.marks.items + length l.self.queue.items - l.passed
