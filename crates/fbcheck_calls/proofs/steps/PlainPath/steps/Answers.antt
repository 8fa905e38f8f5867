use Rattle.std.proofs.Common.{rules}
use Rattle.fbcheck_calls.proofs.steps.PlainPath.steps.Goals as goal

pub returns : goal.returns
returns c = search rules
