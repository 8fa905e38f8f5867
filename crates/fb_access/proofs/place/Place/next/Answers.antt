use Rattle.fb_access.proofs.Tested.{spot_passes}
use Rattle.fb_access.proofs.place.Place.next.Goals as goal

pub next_spot-requires-clause-tested : goal.next_spot-requires-clause-tested
next_spot-requires-clause-tested c = rw (c.window.ensures.value, c.schema.ensures.value) (spot_passes _ _ _ c.self.invariant.spot)
