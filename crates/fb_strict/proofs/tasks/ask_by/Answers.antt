use Rattle.std.proofs.Common.{rules}
use Rattle.fb_strict.proofs.tasks.ask_by.Goals as goal

pub returns-in-Tables : goal.returns-in-Tables
returns-in-Tables c = search rules
