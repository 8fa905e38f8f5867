use Rattle.std.proofs.Common.{rules}
use Rattle.fb_strict.specs.InOrder.{inside_failure}
use Rattle.fb_strict.proofs.unions.test_inside.Goals as goal

pub returns : goal.returns
unfolding inside_failure
returns c = search rules
