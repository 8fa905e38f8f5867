use Rattle.std.proofs.Common.{rules}
use Rattle.json.specs.Print.{escape_byte}
use Rattle.fb_run.proofs.value_text.escape.Goals as goal

pub returns-then-byte-lt32-clause-text : goal.returns-then-byte-lt32-clause-text
unfolding escape_byte
returns-then-byte-lt32-clause-text c = search rules

pub returns-clause-text : goal.returns-clause-text
unfolding escape_byte
returns-clause-text c = search rules
