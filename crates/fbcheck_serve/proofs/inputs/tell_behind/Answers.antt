use Rattle.std.proofs.Common.{rules}
use Rattle.fbcheck_serve.proofs.inputs.tell_behind.Goals as goal

pub returns-in-Err-Name : goal.returns-in-Err-Name
returns-in-Err-Name g c = search rules
