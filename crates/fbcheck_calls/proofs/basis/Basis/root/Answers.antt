use Rattle.std.proofs.Common.{rules}
use Rattle.fbcheck_calls.proofs.AnswerLemmas.{own_root}
use Rattle.fbcheck_calls.proofs.basis.Basis.root.Goals as goal

pub returns-then-options-clause-root : goal.returns-then-options-clause-root
returns-then-options-clause-root c = search (rules, own_root)
