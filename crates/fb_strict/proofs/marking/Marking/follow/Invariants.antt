use Rattle.std.proofs.Common.{◌≡◌}
use Rattle.fb_strict.specs.Leading.{last_to}
use Rattle.fb_strict.proofs.Queues.{Followed}
use Rattle.fb_strict.proofs.marking.Marking.follow.Given as goal

abbrev pub invariant-loop-place : goal.invariant-loop-place
invariant-loop-place g l = Followed (λ e k. k ≡ e) l.chains.edges.items (last_to l.chains.lasts.items l.to) l.fn.self.marks.items l.fn.self.queue.items l.self.marks.items l.self.queue.items l.place

abbrev pub decreases-loop-place : goal.decreases-loop-place
decreases-loop-place g l = l.place
