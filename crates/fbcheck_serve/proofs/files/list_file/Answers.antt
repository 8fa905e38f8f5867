use Rattle.std.proofs.Common.{rules}
use Rattle.fbcheck_serve.proofs.files.list_file.Goals as goal

pub returns-then-eq : goal.returns-then-eq
returns-then-eq c = search rules
