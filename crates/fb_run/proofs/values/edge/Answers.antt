use Rattle.std.proofs.Common.{rules}
use Rattle.fb_run.proofs.values.edge.Goals as goal

pub returns-in-Field : goal.returns-in-Field
returns-in-Field c = search rules
