use Rattle.std.proofs.Common.{rules}
use Rattle.fb_strict.proofs.tasks.is_marked.Goals as goal

pub returns-in-None : goal.returns-in-None
returns-in-None c = search rules
