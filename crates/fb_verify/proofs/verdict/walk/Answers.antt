use Rattle.std.proofs.Common.{rules}
use Rattle.fb_verify.proofs.verdict.walk.Goals as goal

pub returns-in-Err-clause-same : goal.returns-in-Err-clause-same
returns-in-Err-clause-same c = search rules
