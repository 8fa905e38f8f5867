use Rattle.std.proofs.Common.{rules}
use Rattle.fbcheck_serve.proofs.head.head_of.Goals as goal

pub returns-in-Ok-clause-head : goal.returns-in-Ok-clause-head
returns-in-Ok-clause-head c = search rules
