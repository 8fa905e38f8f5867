use Rattle.std.proofs.Common.{rules}
use Rattle.fbcheck_texts.proofs.words.limits.Goals as goal

pub returns-clause-reads : goal.returns-clause-reads
returns-clause-reads c = search rules
