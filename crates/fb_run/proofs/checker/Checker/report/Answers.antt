use Rattle.std.proofs.Common.{IfOk, IfErr}
use Rattle.fb_strict.specs.AsAsked.{ReportsBy, StopsBy}
use Rattle.fb_run.proofs.PlaceLemmas.{by_lenient, told_briefly}
use Rattle.fb_run.proofs.checker.Checker.report.Goals as goal

pub returns-clause-verdict : goal.returns-clause-verdict
returns-clause-verdict g c =
    let bytes = c.args.meter.now.bytes in
    let asks = c.question-question.ensures.asks in
    told_briefly c.args.self.now bytes c.walk.result c.requires.brief
    (by_lenient c.args.self.now bytes c.requires.lenient asks (λ p q. IfOk c.walk.result (ReportsBy p q bytes)) c.walk.ensures.yes)
    (by_lenient c.args.self.now bytes c.requires.lenient asks (λ p q. IfErr c.walk.result (StopsBy p q bytes)) c.walk.ensures.no)
