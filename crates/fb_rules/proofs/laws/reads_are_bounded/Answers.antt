use Rattle.fb_rules.proofs.Price.{reads_are_bounded}
use Rattle.fb_rules.proofs.laws.reads_are_bounded.Goals as goal

pub returns : goal.returns
returns c = reads_are_bounded
