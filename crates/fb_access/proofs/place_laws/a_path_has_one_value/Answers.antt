use Rattle.fb_access.specs.Denotes.{root_spot}
use Rattle.fb_access.proofs.Callers.{shows_one}
use Rattle.fb_access.proofs.place_laws.a_path_has_one_value.Goals as goal

pub returns : goal.returns
returns c = λ b S start root steps x y h i. shows_one b S (root_spot b start root) steps x y h i
