use Rattle.std.proofs.Common.{rules}
use Rattle.fb_rules.proofs.Alignments.{four}
use Rattle.fb_verify.proofs.leaves.stands.Goals as goal

pub returns-then-is_aligned : goal.returns-then-is_aligned
returns-then-is_aligned c = search (rules, four)
