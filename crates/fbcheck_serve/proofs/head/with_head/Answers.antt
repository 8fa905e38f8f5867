use Rattle.std.proofs.Common.{rules}
use Rattle.fbcheck_serve.proofs.head.with_head.Goals as goal

pub returns-in-Err-WriteFault : goal.returns-in-Err-WriteFault
returns-in-Err-WriteFault c = search rules
