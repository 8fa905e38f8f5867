use Rattle.std.proofs.Common.{rules}
use Rattle.fb_access.proofs.misfit.element_kind.Goals as goal

pub returns-in-Tables : goal.returns-in-Tables
returns-in-Tables c = search rules
