use Rattle.std.proofs.Common.{rules}
use Rattle.fbcheck_calls.specs.declared.outcome.Outcome.TheVariants.{NoRoot}
use Rattle.fbcheck_calls.proofs.checking.check_alone.Goals as goal

pub returns-in_default-clause-told : goal.returns-in_default-clause-told
returns-in_default-clause-told c = (NoRoot, c.tell_blank.ensures.told, search rules)
