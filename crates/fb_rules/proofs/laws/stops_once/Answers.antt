use Rattle.fb_rules.proofs.OneFault.{stops_once}
use Rattle.fb_rules.proofs.laws.stops_once.Goals as goal

pub returns : goal.returns
returns c = stops_once
