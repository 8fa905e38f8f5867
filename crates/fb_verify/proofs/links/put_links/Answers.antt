use Rattle.std.proofs.Common.{arith}
use Rattle.std.proofs.lemmas.Grind.{common_steps}
use Rattle.fb_verify.proofs.links.put_links.Goals as goal

pub returns-clause-links : goal.returns-clause-links
returns-clause-links c = grind (arith, common_steps)
