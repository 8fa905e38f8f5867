use Rattle.std.proofs.Common.{rules}
use Rattle.fbcheck_calls.proofs.values.placed.Goals as goal

pub returns-in-Some : goal.returns-in-Some
returns-in-Some c = search rules
