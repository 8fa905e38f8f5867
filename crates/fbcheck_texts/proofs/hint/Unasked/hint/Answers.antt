use Rattle.std.proofs.Common.{rules}
use Rattle.fbcheck_texts.proofs.hint.Unasked.hint.Goals as goal

pub returns-in-None : goal.returns-in-None
returns-in-None c = search rules
