use Rattle.std.proofs.Common.{rules}
use Rattle.fbcheck_serve.proofs.stop.EarlyEnd.is_quiet.Goals as goal

pub returns-then-is_unwritten : goal.returns-then-is_unwritten
returns-then-is_unwritten c = search rules
