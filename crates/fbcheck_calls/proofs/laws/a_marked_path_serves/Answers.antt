use Rattle.fbcheck_calls.proofs.EachLemmas.{marked_paths_serve}
use Rattle.fbcheck_calls.proofs.laws.a_marked_path_serves.Goals as goal

pub returns : goal.returns
returns c = marked_paths_serve
