use Rattle.std.proofs.Common.{refl}
use Rattle.fb_bfbs.proofs.FixedFields.{computing}
use Rattle.fb_bfbs.proofs.copied.type_row.Goals as goal

pub int_in-requires : goal.int_in-requires
unfolding computing
int_in-requires c = record { object = 0; at = c.requires; sure = refl; default_is = refl }
