use Rattle.std.proofs.Common.{rules}
use Rattle.fb_access.specs.Cutting.{next_digit}
use Rattle.fb_access.proofs.pieces.next_digit.Goals as goal

pub returns-in-Some-eq0 : goal.returns-in-Some-eq0
unfolding next_digit
returns-in-Some-eq0 c = search rules
