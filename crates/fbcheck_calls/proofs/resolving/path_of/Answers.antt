use Rattle.std.proofs.Common.{rules}
use Rattle.fbcheck_calls.proofs.resolving.path_of.Goals as goal

pub returns-in-Some-first_mark : goal.returns-in-Some-first_mark
returns-in-Some-first_mark c = search rules

pub returns-in-None : goal.returns-in-None
returns-in-None c = search rules
