use Rattle.std.proofs.Common.{sym, ◌∙◌}
use Rattle.fbcheck_texts.proofs.WordsLemmas.{contradicted, given_by}
use Rattle.fbcheck_texts.proofs.words.settings.Goals as goal

pub returns-in-Some-clause-refused : goal.returns-in-Some-clause-refused
returns-in-Some-clause-refused c =
    contradicted _ _ c.in_ok-settings.settings c.in-Some.fault c.in_ok-matches.ensures.matches c.in_ok-settings.ensures.says (sym c.contradiction.ensures ∙ c.in-Some.is)

pub returns-clause-given : goal.returns-clause-given
returns-clause-given c = (given_by _ _ c.in_ok-settings.settings c.in_ok-matches.ensures.matches c.in_ok-settings.ensures.says (sym c.contradiction.ensures ∙ c.in-None.is)).0

pub returns-clause-ranges : goal.returns-clause-ranges
returns-clause-ranges c = (given_by _ _ c.in_ok-settings.settings c.in_ok-matches.ensures.matches c.in_ok-settings.ensures.says (sym c.contradiction.ensures ∙ c.in-None.is)).1
