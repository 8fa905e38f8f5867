use Rattle.std.proofs.Common.{rules}
use Rattle.fb_strict.proofs.holding.holdings_if.Goals as goal

pub returns-clause-holdings : goal.returns-clause-holdings
returns-clause-holdings g c = search rules
