use Rattle.std.proofs.Common.{rules}
use Rattle.fb_run.proofs.counter.Counter.spot.Goals as goal

pub returns : goal.returns
returns c = search rules
