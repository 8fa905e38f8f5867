use Rattle.std.proofs.Common.{rules}
use Rattle.fbcheck_texts.proofs.hint.Hint.bytes.Goals as goal

pub returns : goal.returns
returns c = search rules
