use Rattle.std.proofs.Common.{rules}
use Rattle.fb_bfbs.proofs.byte_fields.is_slotless.Goals as goal

pub returns-then-is_bytes : goal.returns-then-is_bytes
returns-then-is_bytes c = search rules
