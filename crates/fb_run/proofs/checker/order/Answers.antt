use Rattle.std.proofs.Common.{rules}
use Rattle.fb_run.proofs.checker.order.Goals as goal

pub returns-in-Apart : goal.returns-in-Apart
returns-in-Apart c = search rules
