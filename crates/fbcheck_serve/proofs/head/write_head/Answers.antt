use Rattle.std.proofs.Common.{arith}
use Rattle.std.proofs.lemmas.Grind.{common_steps}
use Rattle.fbcheck_serve.proofs.head.write_head.Goals as goal

pub returns : goal.returns
returns g c = grind (arith, common_steps)
