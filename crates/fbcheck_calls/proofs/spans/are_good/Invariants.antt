use Rattle.std.proofs.Common.{◌≡◌, ◌==◌, drop}
use Rattle.std.specs.List.{list_all}
use Rattle.fbcheck_calls.proofs.spans.are_good.Given as goal

-- the verdicts that are left are all good where all are
abbrev pub invariant-loop-verdict : goal.invariant-loop-verdict
invariant-loop-verdict l = list_all (λ v. v.status == 0) (drop l.verdict-index l.verdicts) ≡ list_all (λ v. v.status == 0) l.verdicts
