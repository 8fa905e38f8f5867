use Rattle.fb_strict.proofs.Bounded.{strict_cost_is_bounded, strict_reads_are_bounded}
use Rattle.fb_strict.proofs.laws.strict_reads_are_bounded.Goals as goal

-- src/laws.rt
pub returns-clause-of_yes : goal.returns-clause-of_yes
returns-clause-of_yes c = strict_cost_is_bounded

-- src/laws.rt
pub returns-clause-of_no : goal.returns-clause-of_no
returns-clause-of_no c = strict_reads_are_bounded
