use Rattle.std.proofs.Common.{rules}
use Rattle.fb_strict.proofs.unions.test_union.Goals as goal

pub returns-then-value-ne0-clause-tested : goal.returns-then-value-ne0-clause-tested
returns-then-value-ne0-clause-tested c = search rules
