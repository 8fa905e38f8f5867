use Rattle.std.proofs.Common.{rules}
use Rattle.fb_schema.proofs.steps.is_small_act.Goals as goal

pub returns-in-One : goal.returns-in-One
returns-in-One c = search rules
