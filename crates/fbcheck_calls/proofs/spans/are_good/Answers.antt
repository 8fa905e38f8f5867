use Rattle.std.proofs.Common.{◌≡◌, ℕ, ◌<◌, ◌==◌, Bool, false, List, length, get_or, drop, drop-cons, arith}
use Rattle.std.proofs.lemmas.Bool.{ne_eqb}
use Rattle.std.specs.List.{list_all}
use Rattle.fbcheck_calls.specs.declared.outcome.Verdict.{Verdict}
use Rattle.fbcheck_calls.proofs.spans.are_good.Goals as goal

-- where all that are left are good if all are, and the first of them isn't, not all are
not_all : (test : Verdict → Bool) (vs : List Verdict) (i : ℕ) (d : Verdict) → i < length vs → test (get_or vs i d) ≡ false
    → list_all test (drop i vs) ≡ list_all test vs → false ≡ list_all test vs
not_all test vs i d within bad rest = rw (drop-cons vs i d within, bad) at rest

pub returns-then-verdict-number : goal.returns-then-verdict-number
returns-then-verdict-number c = not_all (λ v. v.status == 0) c.args.verdicts.now c.loop-verdict.verdict-index _ (omega arith) (ne_eqb _ 0 (rw c.number.ensures at c.if-verdict-number.true)) c.loop-verdict.invariant
