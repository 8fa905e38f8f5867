use Rattle.std.proofs.Common.{rules}
use Rattle.fbcheck_texts.proofs.fault.WordsFault.of.Goals as goal

pub returns-in_default-Ok : goal.returns-in_default-Ok
returns-in_default-Ok c = search rules
