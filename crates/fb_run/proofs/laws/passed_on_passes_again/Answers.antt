use Rattle.fb_run.proofs.FilterLemmas.{passes_again}
use Rattle.fb_run.proofs.laws.passed_on_passes_again.Goals as goal

pub returns : goal.returns
returns c = passes_again
