use Rattle.std.proofs.Common.{rules}
use Rattle.fb_strict.proofs.pass.Pass.asked_referent.Goals as goal

pub returns-in-Text : goal.returns-in-Text
returns-in-Text g c = search rules

pub returns-in_default : goal.returns-in_default
returns-in_default g c = search rules
