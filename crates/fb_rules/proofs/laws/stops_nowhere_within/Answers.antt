use Rattle.fb_rules.proofs.Overruns.{stops_nowhere}
use Rattle.fb_rules.proofs.laws.stops_nowhere_within.Goals as goal

pub returns : goal.returns
returns c = stops_nowhere
