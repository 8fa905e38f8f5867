use Rattle.std.proofs.Common.{rules}
use Rattle.fb_run.proofs.run.run.Goals as goal

pub returns-clause-end : goal.returns-clause-end
returns-clause-end g c = search rules
