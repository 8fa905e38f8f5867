use Rattle.fb_strict.proofs.OneVerdict.{unions_lead_inside}
use Rattle.fb_strict.proofs.laws.unions_lead_inside.Goals as goal

-- src/laws.rt
pub returns : goal.returns
returns c = unions_lead_inside
