use Rattle.std.proofs.Common.{rules}
use Rattle.fbcheck_calls.proofs.resolving.is_mark.Goals as goal

pub returns-then-text-at-eq42 : goal.returns-then-text-at-eq42
returns-then-text-at-eq42 c = search rules
