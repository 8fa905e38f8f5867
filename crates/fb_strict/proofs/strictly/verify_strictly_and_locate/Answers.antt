use Rattle.std.proofs.Common.{◌≤◌, ap, arith, length}
use Rattle.std.proofs.lemmas.Result.{IfOk-weaker, IfErr-weaker}
use Rattle.fb_rules.specs.Question.{Question}
use Rattle.fb_strict.specs.Strictly.{StopsAlongStrictly}
use Rattle.fb_strict.proofs.{Bounded.strict_cost_is_bounded, Bounded.strict_reads_are_bounded, OneVerdict.stops_has_none, Locating.along_front}
use Rattle.fb_strict.proofs.strictly.verify_strictly_and_locate.Goals as goal

-- src/strictly.rt
pub returns-clause-none : goal.returns-clause-none
returns-clause-none g c = IfErr-weaker c.verdict.result _ _ (λ l. stops_has_none c.args.plan.now c.args.question.now c.args.meter.bytes l.fault) c.verdict.ensures.no

pub returns-clause-price_of_yes : goal.returns-clause-price_of_yes
returns-clause-price_of_yes g c = IfOk-weaker c.verdict.result _ _ (λ s. strict_cost_is_bounded c.args.plan.now c.args.question.now c.args.meter.bytes s.report) c.verdict.ensures.yes

pub returns-clause-price_of_no : goal.returns-clause-price_of_no
returns-clause-price_of_no g c = IfErr-weaker c.verdict.result _ _ (λ l. strict_reads_are_bounded c.args.plan.now c.args.question.now c.args.meter.bytes l.fault) c.verdict.ensures.no

pub returns-clause-along : goal.returns-clause-along
returns-clause-along g c =
    let enough : ((c.args.question.now).limits).depth ≤ length c.split_at_mut-way.result.0.now = omega (arith, c.split_at_mut-way.ensures.front_len, c.depth.ensures.value, ap (λ (q : Question). (q.limits).depth) c.question.view_is) in
    along_front (StopsAlongStrictly c.args.plan.now c.args.question.now c.args.meter.bytes) c.verdict.result c.verdict.new.links _ c.verdict.ensures.few (IfErr-weaker c.verdict.result _ _ (λ l h. h enough) c.verdict.ensures.along)
