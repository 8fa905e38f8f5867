use Rattle.std.proofs.Common.{rules}
use Rattle.fb_bfbs.proofs.copied.default_in.Goals as goal

pub returns-then-base-eq-DOUBLE : goal.returns-then-base-eq-DOUBLE
returns-then-base-eq-DOUBLE c = search rules
