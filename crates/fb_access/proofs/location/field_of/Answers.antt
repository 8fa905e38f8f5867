use Rattle.std.proofs.Common.{rules}
use Rattle.fb_access.proofs.location.field_of.Goals as goal

pub returns : goal.returns
returns c = search rules
