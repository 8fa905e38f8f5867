use Rattle.std.proofs.Common.{rules}
use Rattle.fbcheck_texts.proofs.framing.run_hint.Goals as goal

pub returns-in-BareTooLong : goal.returns-in-BareTooLong
returns-in-BareTooLong c = search rules
