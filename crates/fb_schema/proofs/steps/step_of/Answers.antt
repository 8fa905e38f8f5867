use Rattle.std.proofs.Common.{rules}
use Rattle.fb_schema.proofs.steps.step_of.Goals as goal

pub returns : goal.returns
returns c = search rules
