use Rattle.std.proofs.Common.{◌∙◌}
use Rattle.fbcheck_calls.proofs.hints.plain_hint.Goals as goal

pub returns-clause-none : goal.returns-clause-none
returns-clause-none c = λ steps resolves. c.copy_hint.ensures.none (c.as_slice.ensures.value ∙ c.path_hint.ensures steps resolves)
