use Rattle.fb_strict.proofs.Reached.{held_buffers_good}
use Rattle.fb_strict.proofs.laws.held_buffers_are_good.Goals as goal

-- src/laws.rt
pub returns : goal.returns
returns c = held_buffers_good
