use Rattle.std.proofs.Common.{IsTrue, subst, sym}
use Rattle.fb_schema.specs.Rows.{is_table}
use Rattle.fb_rules.specs.{Question.Question, Verdict.Reports}
use Rattle.fb_verify.proofs.Verdicts.{unfolded}
use Rattle.fb_verify.proofs.verified.Verified.of.Goals as goal

pub invariant_of-result : goal.invariant_of-result
invariant_of-result c =
    let i = c.question.inside in
    let back = sym c.question.view_is in
    unfolded _ c.seal.ensures.bytes i.ident i.limits c.seal.ensures.short (subst (λ (q : Question). IsTrue (is_table q.rows q.root)) back c.requires.table) (subst (λ q. Reports q c.args.meter.bytes c.args.report) back c.requires.reports)
