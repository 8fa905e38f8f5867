use Rattle.std.proofs.Common.{arith}
use Rattle.std.proofs.lemmas.Grind.{common_steps}
use Rattle.fb_run.proofs.json_line.put_spot.Goals as goal

pub returns : goal.returns
returns g c = grind (arith, common_steps)
