use Rattle.std.proofs.Common.{rules}
use Rattle.fbcheck_calls.proofs.place.cut_into.Goals as goal

pub returns-clause-length : goal.returns-clause-length
returns-clause-length c = search rules
