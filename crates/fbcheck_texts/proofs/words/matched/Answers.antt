use Rattle.std.proofs.Common.{rules}
use Rattle.fbcheck_texts.proofs.{WordsLemmas.is_read, WordsLemmas.refused_by, words.matched.Goals.in-OutOfMemory, words.matched.Goals.in_default-kind}
use Rattle.fbcheck_texts.proofs.words.matched.Goals as goal

pub returns-clause-matches : goal.returns-clause-matches
returns-clause-matches c = is_read _ _ _ c.in-Ok-try_get_matches_from.ensures.kinds c.in-Ok-try_get_matches_from.ensures.parsed c.in-Ok.ensures.app c.in-Ok-try_get_matches_from.ensures.matches

pub returns-in-Err-clause-refused : goal.returns-in-Err-clause-refused
returns-in-Err-clause-refused c = elim c.match-kind.branch [
  | in-OutOfMemory w ↦ rw w.result-is tt
  | in_default-kind w ↦
      let fault = refused_by _ _ c.in-Err.error c.in-Ok.ensures.app c.in-Err.ensures.kinds in
      rw w.result-is (search rules, fault)
]
