use Rattle.std.proofs.Common.{rules}
use Rattle.fbcheck_texts.proofs.words.said.Goals as goal

pub returns-clause-says : goal.returns-clause-says
returns-clause-says c = search rules
