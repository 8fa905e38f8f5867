use Rattle.fb_strict.specs.Leading.{IsFrom, last_to}
use Rattle.fb_strict.proofs.Queues.{Followed}
use Rattle.fb_strict.proofs.marking.Marking.follow_members.Given as goal

abbrev pub invariant-loop-place : goal.invariant-loop-place
invariant-loop-place g l =
    Followed (λ e k. IsFrom l.leads.unions.lasts.items l.leads.unions.edges.items k e) l.leads.members.edges.items (last_to l.leads.members.lasts.items l.to) l.fn.self.marks.items l.fn.self.queue.items l.self.marks.items l.self.queue.items l.place

abbrev pub decreases-loop-place : goal.decreases-loop-place
decreases-loop-place g l = l.place
