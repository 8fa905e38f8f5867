use Rattle.std.proofs.Common.{ap, arith}
use Rattle.fb_rules.specs.Question.{Question}
use Rattle.fb_strict.proofs.strictly.walk.Goals as goal

-- src/strictly.rt
pub returns-in-Err-clause-along : goal.returns-in-Err-clause-along
returns-in-Err-clause-along c enough = absurd (omega (arith, enough, c.if-links-depth.true, c.depth.ensures.value, ap (λ (q : Question). (q.limits).depth) c.question.view_is))

pub verify_and_locate-requires-clause-room : goal.verify_and_locate-requires-clause-room
verify_and_locate-requires-clause-room c = c.requires.lent.located (omega (arith, c.if-links-depth.false, c.depth.ensures.value, ap (λ (q : Question). (q.limits).depth) c.question.view_is))

pub verify_and_locate-requires-clause-links : goal.verify_and_locate-requires-clause-links
verify_and_locate-requires-clause-links c = omega (arith, c.if-links-depth.false, c.depth.ensures.value, ap (λ (q : Question). (q.limits).depth) c.question.view_is)
