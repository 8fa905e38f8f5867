use Rattle.std.proofs.Common.{rules}
use Rattle.fb_strict.proofs.leads.Chains.add_kind.Goals as goal

pub returns-in_default : goal.returns-in_default
returns-in_default g c = search rules
