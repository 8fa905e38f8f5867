use Rattle.std.proofs.Common.{rules}
use Rattle.fbcheck_texts.proofs.words.is_sign.Goals as goal

pub returns-else-byte-eq64 : goal.returns-else-byte-eq64
returns-else-byte-eq64 c = search rules
