use Rattle.std.proofs.Common.{rules}
use Rattle.fb_verify.proofs.verified.Verified.report.Goals as goal

pub returns-clause-value : goal.returns-clause-value
returns-clause-value c = search rules
