use Rattle.std.proofs.Common.{rules}
use Rattle.fb_strict.proofs.links.element_at.Goals as goal

pub returns-in-Texts : goal.returns-in-Texts
returns-in-Texts c = search rules
