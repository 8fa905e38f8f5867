use Rattle.std.proofs.Common.{rules}
use Rattle.fbcheck_texts.proofs.words.terms.Goals as goal

pub returns : goal.returns
returns c = search rules
