use Rattle.std.proofs.Common.{rules}
use Rattle.fbcheck_serve.proofs.inputs.told_line.Goals as goal

pub returns-in-Some : goal.returns-in-Some
returns-in-Some c = search rules
