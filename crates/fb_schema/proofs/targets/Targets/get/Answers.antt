use Rattle.std.proofs.Common.{rules}
use Rattle.fb_schema.proofs.targets.Targets.get.Goals as goal

pub returns-in-Some-get : goal.returns-in-Some-get
returns-in-Some-get c = search rules

pub returns-in-None : goal.returns-in-None
returns-in-None c = search rules
