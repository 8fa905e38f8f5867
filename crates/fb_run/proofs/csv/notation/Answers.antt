use Rattle.std.proofs.Common.{arith}
use Rattle.std.proofs.lemmas.Grind.{common_steps}
use Rattle.fb_run.proofs.csv.notation.Goals as goal

pub returns-else-is_none : goal.returns-else-is_none
returns-else-is_none c = grind (arith, common_steps)
