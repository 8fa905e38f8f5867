use Rattle.std.proofs.Common.{◌<◌, inl, inr, sym, subst}
use Rattle.fb_strict.proofs.Queues.{spread_both}
use Rattle.fb_strict.proofs.marking.Marking.follow_back.Goals as goal

-- src/marking.rt
pub follow-requires-clause-within : goal.follow-requires-clause-within
follow-requires-clause-within g c k on = c.requires.within k (inl on)

pub follow_members-requires-clause-within : goal.follow_members-requires-clause-within
follow_members-requires-clause-within g c k e on led = subst (λ m. k < m) (sym c.in_ok-follow.ensures.grew.long) (c.requires.within k (inr (e, on, led)))

pub follow_members-requires-clause-queue : goal.follow_members-requires-clause-queue
follow_members-requires-clause-queue g c = c.in_ok-follow.ensures.grew.queued

pub returns : goal.returns
returns g c =
    spread_both _ _ c.args.self.now.marks.items c.args.self.now.queue.items c.follow.new.self.marks.items c.follow.new.self.queue.items c.follow_members.new.self.marks.items c.follow_members.new.self.queue.items c.in_ok-follow.ensures c.in_ok-follow_members.ensures
