use Rattle.std.proofs.Common.{rules}
use Rattle.fb_strict.proofs.holding.slot_of.Goals as goal

pub returns : goal.returns
returns c = search rules
