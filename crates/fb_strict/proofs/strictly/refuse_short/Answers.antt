use Rattle.std.proofs.Common.{rules}
use Rattle.fb_strict.proofs.strictly.refuse_short.Goals as goal

pub returns-in-Some-clause-some : goal.returns-in-Some-clause-some
returns-in-Some-clause-some c = search rules
