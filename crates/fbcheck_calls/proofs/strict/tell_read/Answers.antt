use Rattle.std.proofs.Common.{rules}
use Rattle.fbcheck_calls.proofs.strict.tell_read.Goals as goal

pub returns-in-Ok-clause-told : goal.returns-in-Ok-clause-told
returns-in-Ok-clause-told c = search rules
