use Rattle.fb_strict.proofs.Chains.{unions_none}
use Rattle.fb_strict.proofs.laws.unions_are_told.Goals as goal

-- src/laws.rt
pub returns : goal.returns
returns c = unions_none
