use Rattle.std.proofs.Common.{rules}
use Rattle.fbcheck_calls.proofs.options.Options.ident.Goals as goal

pub returns-in_default : goal.returns-in_default
returns-in_default c = search rules
