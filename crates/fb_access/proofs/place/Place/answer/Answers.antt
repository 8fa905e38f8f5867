use Rattle.std.proofs.Common.{sym, ◌∙◌}
use Rattle.fb_access.proofs.Counted.{tables_fit}
use Rattle.fb_access.proofs.place.Place.answer.Goals as goal

pub returns-clause-tables : goal.returns-clause-tables
returns-clause-tables c = λ k n here v. tables_fit _ _ _ k n c.see.ensures.placed.spot here (sym v ∙ c.see.ensures.seen.shows)
