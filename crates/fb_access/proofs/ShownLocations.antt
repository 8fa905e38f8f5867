-- The examples of where faults are, by computing.
use Rattle.std.proofs.Common.{ℕ, rules}
use Rattle.std.specs.Fmt.{digits}
use Rattle.fb_schema.specs.{Kinds.base_types, Kinds.shape_of, Kinds.kind_of, Live.live_fields, Members.member_name}
use Rattle.fb_access.specs.Location.{whole_text, location_text}
use Rattle.fb_access.specs.LocationTests.{Told, Nameless, Enclosed, Masked, Ways, Long}

-- all that is computed
computing : ℕ
unfolding live_fields shape_of kind_of base_types member_name whole_text location_text digits
computing = 0

pub told_shown : Told
unfolding computing
told_shown = search rules

pub nameless_shown : Nameless
unfolding computing
nameless_shown = search rules

pub enclosed_shown : Enclosed
unfolding computing
enclosed_shown = search rules

pub masked_shown : Masked
unfolding computing
masked_shown = search rules

pub ways_shown : Ways
unfolding computing
ways_shown = search rules

pub long_shown : Long
unfolding computing
long_shown = search rules
