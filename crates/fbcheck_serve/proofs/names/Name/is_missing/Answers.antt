use Rattle.std.proofs.Common.{rules}
use Rattle.fbcheck_serve.proofs.names.Name.is_missing.Goals as goal

pub returns-in-List-clause-others : goal.returns-in-List-clause-others
returns-in-List-clause-others c = search rules
