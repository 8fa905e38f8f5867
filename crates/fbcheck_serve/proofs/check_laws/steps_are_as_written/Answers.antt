use Rattle.fbcheck_serve.proofs.StepLemmas.{steps_as_written}
use Rattle.fbcheck_serve.proofs.check_laws.steps_are_as_written.Goals as goal

pub returns : goal.returns
returns c = steps_as_written
