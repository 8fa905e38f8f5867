use Rattle.fb_rules.specs.Told.{way_at}
use Rattle.fb_verify.proofs.verdict.trace.Given as goal

abbrev pub ghost-run : goal.ghost-run
ghost-run a = record { object = a.root.object; position = a.root.at; way = way_at 0 a.self.now.tables a.self.now.deepest a.loan.now.count a.site }
