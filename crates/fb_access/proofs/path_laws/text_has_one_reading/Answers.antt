use Rattle.fb_access.proofs.OneReading.{one_reading}
use Rattle.fb_access.proofs.path_laws.text_has_one_reading.Goals as goal

pub returns : goal.returns
returns c = one_reading
