use Rattle.std.proofs.Common.{rules}
use Rattle.fbcheck_serve.proofs.inputs.Came.by.Goals as goal

pub returns-clause-cause : goal.returns-clause-cause
returns-clause-cause g c = search rules
