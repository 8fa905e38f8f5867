use Rattle.std.proofs.Common.{List, subst, ℕ}
use Rattle.fb_run.specs.Job.{IsVerdict, brief_verdict}
use Rattle.fb_run.proofs.output.Output.add.Goals as goal

pub add_briefly-requires-clause-verdict : goal.add_briefly-requires-clause-verdict
add_briefly-requires-clause-verdict g c = subst (λ (l : List ℕ). IsVerdict c.args.checker.now l (brief_verdict c.report-report.result)) c.metered.ensures.bytes c.report-report.ensures.verdict
