use Rattle.std.proofs.Common.{rules}
use Rattle.fbcheck_texts.proofs.framing.end_hint.Goals as goal

pub returns-in-Some : goal.returns-in-Some
returns-in-Some c = search rules
