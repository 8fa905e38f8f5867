use Rattle.std.proofs.Common.{rules}
use Rattle.fb_strict.proofs.tasks.is_asked.Goals as goal

pub returns-in_default : goal.returns-in_default
returns-in_default c = search rules
