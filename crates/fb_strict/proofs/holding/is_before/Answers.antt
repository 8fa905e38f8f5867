use Rattle.std.proofs.Common.{rules}
use Rattle.fb_strict.proofs.holding.is_before.Goals as goal

pub returns-then-at-object-2 : goal.returns-then-at-object-2
returns-then-at-object-2 c = search rules
