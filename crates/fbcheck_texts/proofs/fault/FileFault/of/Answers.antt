use Rattle.std.proofs.Common.{rules}
use Rattle.fbcheck_texts.proofs.fault.FileFault.of.Goals as goal

pub returns-in-OutOfMemory : goal.returns-in-OutOfMemory
returns-in-OutOfMemory c = search rules
