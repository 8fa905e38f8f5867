use Rattle.fb_strict.proofs.Unasked.{nothing_asked}
use Rattle.fb_strict.proofs.laws.tasks_are_all.Goals as goal

-- src/laws.rt
pub returns : goal.returns
returns c = nothing_asked
