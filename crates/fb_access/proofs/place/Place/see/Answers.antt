use Rattle.fb_access.proofs.Tested.{spot_passes}
use Rattle.fb_access.proofs.place.Place.see.Goals as goal

pub see-requires-clause-tested : goal.see-requires-clause-tested
see-requires-clause-tested c = rw (c.window.ensures.value, c.schema.ensures.value) (spot_passes _ _ _ c.self.invariant.spot)
