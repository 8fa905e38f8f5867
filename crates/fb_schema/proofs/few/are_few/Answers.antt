use Rattle.std.proofs.Common.{rules}
use Rattle.fb_schema.proofs.few.are_few.Goals as goal

pub returns-then-own_few : goal.returns-then-own_few
returns-then-own_few c = search rules
