use Rattle.std.proofs.Common.{rules}
use Rattle.fbcheck_serve.proofs.asked.options.Goals as goal

pub returns : goal.returns
returns c = search rules
