use Rattle.std.proofs.Common.{rules}
use Rattle.fb_access.proofs.tested_value.vector_at.Goals as goal

pub returns : goal.returns
returns c = search rules
