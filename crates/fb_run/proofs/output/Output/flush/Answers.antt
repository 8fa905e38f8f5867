use Rattle.std.proofs.Common.{rules}
use Rattle.fb_run.proofs.output.Output.flush.Goals as goal

pub returns-then-self-clause-so : goal.returns-then-self-clause-so
returns-then-self-clause-so g c = search rules
