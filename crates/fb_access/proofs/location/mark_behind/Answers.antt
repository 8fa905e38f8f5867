use Rattle.std.proofs.Common.{rules}
use Rattle.fb_access.proofs.location.mark_behind.Goals as goal

pub returns-in-None-Scalars-UByte : goal.returns-in-None-Scalars-UByte
returns-in-None-Scalars-UByte c = search rules
