use Rattle.std.proofs.Common.{rules}
use Rattle.std.proofs.lemmas.Grind.{common_steps}
use Rattle.fb_bfbs.proofs.loading.paying.Goals as goal

pub returns-in-Some : goal.returns-in-Some
returns-in-Some c = search (rules, common_steps)
