use Rattle.std.proofs.Common.{rules}
use Rattle.fb_strict.specs.InOrder.{element_failure, element_reads}
use Rattle.fb_strict.proofs.unions.test_element.Goals as goal

pub returns-clause-tested : goal.returns-clause-tested
unfolding element_failure element_reads
returns-clause-tested c = search rules
