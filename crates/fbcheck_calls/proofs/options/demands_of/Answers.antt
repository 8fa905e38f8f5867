use Rattle.std.proofs.Common.{rules}
use Rattle.fbcheck_calls.proofs.options.demands_of.Goals as goal

pub returns : goal.returns
returns c = search rules
