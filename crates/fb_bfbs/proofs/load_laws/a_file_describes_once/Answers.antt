use Rattle.fb_bfbs.proofs.OneLoad.{one_description}
use Rattle.fb_bfbs.proofs.load_laws.a_file_describes_once.Goals as goal

pub returns : goal.returns
returns c = one_description
