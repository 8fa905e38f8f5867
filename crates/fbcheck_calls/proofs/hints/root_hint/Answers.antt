use Rattle.std.proofs.Common.{rules}
use Rattle.fbcheck_calls.proofs.hints.root_hint.Goals as goal

pub returns-in-Some-clause-none : goal.returns-in-Some-clause-none
returns-in-Some-clause-none c = search rules
