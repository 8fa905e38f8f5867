use Rattle.std.proofs.Common.{rules}
use Rattle.fbcheck_serve.proofs.strict.demanded.Goals as goal

pub returns : goal.returns
returns c = search rules
