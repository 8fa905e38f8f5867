use Rattle.std.proofs.Common.{rules}
use Rattle.fb_run.proofs.checker.Checker.report_strictly.Goals as goal

pub returns-in-Ok-clause-verdict : goal.returns-in-Ok-clause-verdict
returns-in-Ok-clause-verdict g c = search rules
