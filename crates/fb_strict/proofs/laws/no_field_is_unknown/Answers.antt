use Rattle.fb_strict.proofs.OneVerdict.{no_field_is_unknown}
use Rattle.fb_strict.proofs.laws.no_field_is_unknown.Goals as goal

-- src/laws.rt
pub returns : goal.returns
returns c = no_field_is_unknown
