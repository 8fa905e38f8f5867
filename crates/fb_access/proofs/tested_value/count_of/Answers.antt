use Rattle.std.proofs.Common.{rules}
use Rattle.fb_access.proofs.tested_value.count_of.Goals as goal

pub returns-then-not-fits : goal.returns-then-not-fits
returns-then-not-fits c = search rules

pub returns : goal.returns
returns c = search rules
