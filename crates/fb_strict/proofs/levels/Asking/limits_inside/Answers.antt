use Rattle.std.proofs.Common.{rules}
use Rattle.fb_strict.proofs.levels.Asking.limits_inside.Goals as goal

pub returns-in-Some : goal.returns-in-Some
returns-in-Some g c = search rules
