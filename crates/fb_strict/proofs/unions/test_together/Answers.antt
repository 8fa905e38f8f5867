use Rattle.std.proofs.Common.{rules}
use Rattle.fb_strict.proofs.unions.test_together.Goals as goal

pub returns : goal.returns
returns c = search rules
