use Rattle.fb_access.proofs.{StepKinds.kinds_go_on, Staying.step_stays, Sure.here_goes_on, Knowing.known_leads, Knowing.known_vtable, Knowing.known_readable}
use Rattle.fb_access.proofs.place.Place.go_to.Goals as goal

pub known_spot-requires-clause-table : goal.known_spot-requires-clause-table
known_spot-requires-clause-table c = rw c.window.ensures.value (known_vtable _ _ _ _ (rw (← c.self.view_is) at c.requires) _ _ c.in-AtTable.is c.self.invariant.spot)

pub known_spot-requires-clause-readable : goal.known_spot-requires-clause-readable
known_spot-requires-clause-readable c =
    let served = rw c.schema.ensures.value at c.lawful.ensures.served in
    rw c.window.ensures.value (known_readable _ _ _ _ (rw (← c.self.view_is) at c.requires) _ _ served c.in-AtTable.is c.self.invariant.spot)

pub returns-clause-leads : goal.returns-clause-leads
returns-clause-leads c =
    let l = known_leads _ _ _ _ (rw (← c.self.view_is) at c.requires) _ _ c.in-AtTable.is in
    rw (← c.self.view_is) (rw (c.known_spot.ensures, c.window.ensures.value) l)

pub returns-clause-kinds : goal.returns-clause-kinds
returns-clause-kinds c =
    let l = known_leads _ _ _ _ (rw (← c.self.view_is) at c.requires) _ _ c.in-AtTable.is in
    rw (← c.self.view_is) (rw (c.known_spot.ensures, c.window.ensures.value) (kinds_go_on _ _ _ _ _ l))

pub returns-clause-here : goal.returns-clause-here
returns-clause-here c =
    let l = known_leads _ _ _ _ (rw (← c.self.view_is) at c.requires) _ _ c.in-AtTable.is in
    let served = rw c.schema.ensures.value at c.lawful.ensures.served in
    rw (← c.self.view_is) (rw (c.known_spot.ensures, c.window.ensures.value) (here_goes_on _ _ _ _ _ served c.self.invariant.spot l))

pub invariant_of-result : goal.invariant_of-result
invariant_of-result c =
    let l = known_leads _ _ _ _ (rw (← c.self.view_is) at c.requires) _ _ c.in-AtTable.is in
    let served = rw c.schema.ensures.value at c.lawful.ensures.served in
    record { unfolds = c.self.invariant.unfolds; spot = rw (c.known_spot.ensures, c.window.ensures.value) (step_stays _ _ _ _ _ served c.self.invariant.spot l) }
