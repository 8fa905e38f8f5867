use Rattle.std.proofs.Common.{rules}
use Rattle.fb_rules.specs.Places.{field_place}
use Rattle.fb_access.proofs.tested_field.place_of.Goals as goal

pub u16_at-offset-requires : goal.u16_at-offset-requires
unfolding field_place
u16_at-offset-requires c = search rules
