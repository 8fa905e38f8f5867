use Rattle.std.proofs.Common.{rules}
use Rattle.fbcheck_serve.proofs.limits.schema_limits.Goals as goal

pub returns : goal.returns
returns c = search rules
