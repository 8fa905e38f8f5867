use Rattle.fb_strict.proofs.Inside.{plain_comes_to}
use Rattle.fb_strict.proofs.laws.plain_demands_come_to_the_first.Goals as goal

-- src/laws.rt
pub returns : goal.returns
returns c = plain_comes_to
