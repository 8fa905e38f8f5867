use Rattle.std.proofs.Common.{rules}
use Rattle.fb_run.proofs.output.Output.keep.Goals as goal

pub returns-in-Err-Kept-clause-puts : goal.returns-in-Err-Kept-clause-puts
returns-in-Err-Kept-clause-puts g c = search rules
