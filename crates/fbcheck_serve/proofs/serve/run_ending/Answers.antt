use Rattle.std.proofs.Common.{rules}
use Rattle.fbcheck_serve.proofs.serve.run_ending.Goals as goal

pub returns-in-Ok-end : goal.returns-in-Ok-end
returns-in-Ok-end c = search rules

pub returns-in-Err-end : goal.returns-in-Err-end
returns-in-Err-end c = search rules
