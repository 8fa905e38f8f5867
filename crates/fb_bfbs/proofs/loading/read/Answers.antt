use Rattle.std.proofs.Common.{IfErr, IfOk, List, ℕ, subst}
use Rattle.fb_bfbs.specs.{FileRows.IsReadFile, Loads.IsLoadFault}
use Rattle.fb_bfbs.proofs.loading.read.Goals as goal

pub returns-clause-yes : goal.returns-clause-yes
returns-clause-yes c = subst (λ (b : List ℕ). IfOk c.read_by.result (IsReadFile b c.args.limits)) c.in-Ok.ensures.meter.0 c.read_by.ensures.yes

pub returns-clause-no : goal.returns-clause-no
returns-clause-no c = subst (λ (b : List ℕ). IfErr c.read_by.result (IsLoadFault b c.args.limits)) c.in-Ok.ensures.meter.0 c.read_by.ensures.no
