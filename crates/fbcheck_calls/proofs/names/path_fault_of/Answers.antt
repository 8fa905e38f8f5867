use Rattle.std.proofs.Common.{rules}
use Rattle.fbcheck_calls.proofs.names.path_fault_of.Goals as goal

pub returns-in-2 : goal.returns-in-2
returns-in-2 c = search rules
