use Rattle.std.proofs.Common.{rules}
use Rattle.fbcheck_texts.proofs.texts.stopped_text.Goals as goal

pub returns-clause-text : goal.returns-clause-text
returns-clause-text c = search rules
