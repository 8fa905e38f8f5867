use Rattle.fb_strict.proofs.Skips.{skips}
use Rattle.fb_strict.proofs.laws.what_is_not_asked_is_strict.Goals as goal

-- src/laws.rt
pub returns : goal.returns
returns c = skips
