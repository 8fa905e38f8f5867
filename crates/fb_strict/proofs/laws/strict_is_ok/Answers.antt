use Rattle.fb_strict.proofs.OneVerdict.{strict_is_ok}
use Rattle.fb_strict.proofs.laws.strict_is_ok.Goals as goal

-- src/laws.rt
pub returns : goal.returns
returns c = strict_is_ok
