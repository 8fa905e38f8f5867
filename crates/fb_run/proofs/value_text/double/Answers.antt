use Rattle.std.proofs.Common.{rules}
use Rattle.fb_run.proofs.value_text.double.Goals as goal

pub returns-then-byte-eq34-clause-text : goal.returns-then-byte-eq34-clause-text
returns-then-byte-eq34-clause-text c = search rules
