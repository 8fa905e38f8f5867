use Rattle.std.proofs.Common.{rules}
use Rattle.fb_strict.proofs.levels.Missed.fault.Goals as goal

pub returns : goal.returns
returns c = search rules
