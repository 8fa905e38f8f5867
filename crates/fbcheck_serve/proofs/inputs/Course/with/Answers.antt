use Rattle.std.proofs.Common.{rules}
use Rattle.fbcheck_serve.proofs.inputs.Course.with.Goals as goal

pub returns-in-Ok-clause-course : goal.returns-in-Ok-clause-course
returns-in-Ok-clause-course c = search rules
