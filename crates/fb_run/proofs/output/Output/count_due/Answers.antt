use Rattle.std.proofs.Common.{rules}
use Rattle.fb_run.proofs.output.Output.count_due.Goals as goal

pub returns-clause-due : goal.returns-clause-due
returns-clause-due g c = search rules
