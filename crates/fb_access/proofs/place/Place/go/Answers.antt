use Rattle.std.proofs.Common.{sym}
use Rattle.fb_access.proofs.{StepKinds.allowed_leads, StepKinds.kinds_go_on, Staying.step_stays, Sure.here_goes_on}
use Rattle.fb_access.proofs.place.Place.go.Goals as goal

pub unreachable-requires : goal.unreachable-requires
unreachable-requires c = allowed_leads _ _ _ _ c.requires (sym (rw c.in-None.is at c.next.ensures))

pub returns-clause-kinds : goal.returns-clause-kinds
returns-clause-kinds c = kinds_go_on _ _ _ _ _ (sym (rw c.in-Some.is at c.next.ensures))

pub returns-clause-here : goal.returns-clause-here
returns-clause-here c =
    let l = rw (← c.self.view_is, c.in-Some.is) at c.next.ensures in
    let served = rw c.schema.ensures.value at c.lawful.ensures.served in
    rw (← c.self.view_is) (here_goes_on _ _ _ _ _ served c.self.invariant.spot (sym l))

pub invariant_of-result : goal.invariant_of-result
invariant_of-result c =
    let l = rw (← c.self.view_is, c.in-Some.is) at c.next.ensures in
    let served = rw c.schema.ensures.value at c.lawful.ensures.served in
    record { unfolds = c.self.invariant.unfolds; spot = step_stays _ _ _ _ _ served c.self.invariant.spot (sym l) }
