use Rattle.std.proofs.Common.{rules}
use Rattle.fbcheck_calls.proofs.basis.Basis.plan_for.Goals as goal

pub returns-then-demands-self-clause-plan : goal.returns-then-demands-self-clause-plan
returns-then-demands-self-clause-plan c = search rules
