use Rattle.std.proofs.Common.{rules}
use Rattle.fb_bfbs.proofs.tags.told_by_flag.Goals as goal

pub returns-in-None : goal.returns-in-None
returns-in-None c = search rules
