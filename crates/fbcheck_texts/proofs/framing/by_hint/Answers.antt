use Rattle.std.proofs.Common.{rules}
use Rattle.fbcheck_texts.proofs.framing.by_hint.Goals as goal

pub returns-in-Fixed : goal.returns-in-Fixed
returns-in-Fixed c = search rules
