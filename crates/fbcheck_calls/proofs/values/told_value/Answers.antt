use Rattle.std.proofs.Common.{rules}
use Rattle.fbcheck_calls.proofs.values.told_value.Goals as goal

pub returns-in-DefaultDouble : goal.returns-in-DefaultDouble
returns-in-DefaultDouble c = search rules
