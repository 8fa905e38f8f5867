-- What a strict ok says without the plan.
use Rattle.std.proofs.Common.{ℕ, List, Option, Some, None, arith}
use Rattle.fb_rules.specs.{declared.fault.Report.Report, Question.Question}
use Rattle.fb_strict.specs.{AsAsked.ReportsBy, Laws.IsOk, Planned.Planned}
use Rattle.fb_strict.proofs.OneVerdict as strict
use Rattle.fb_run.specs.{Job.asked_of, StrictLaws.StrictIsOk}

-- the walk alone reports this
walked : (plan : Option Planned) (q : Question) (bytes : List ℕ) (report : Report) → ReportsBy plan q bytes report → IsOk q bytes report
walked None q bytes report h = record { walked = report; reports = h; tables = omega arith; depth = omega arith; reads = omega arith }
walked (Some p) q bytes report h = strict.strict_is_ok p q bytes report h

pub strict_is_ok : StrictIsOk
strict_is_ok job bytes found (reports, answers) =
    let ok = walked job.plan (asked_of job bytes) bytes found.report reports in
    (ok.walked, (ok.reports, answers), ok.tables, ok.depth, ok.reads)
