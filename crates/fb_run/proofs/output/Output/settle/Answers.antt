use Rattle.std.proofs.Common.{rules}
use Rattle.fb_run.proofs.output.Output.settle.Goals as goal

pub returns-clause-little : goal.returns-clause-little
returns-clause-little g c = search rules
