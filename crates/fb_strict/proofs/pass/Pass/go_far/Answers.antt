use Rattle.std.proofs.Common.{sym, ap, subst}
use Rattle.fb_bytes.specs.Word.{Lent}
use Rattle.fb_strict.specs.Passing.{AreLeft}
use Rattle.fb_strict.proofs.Looping.{lent_stands, loan_went}
use Rattle.fb_strict.proofs.pass.Pass.go_far.Goals as goal

-- src/pass.rt
pub take_turns-answer-requires-clause-stands : goal.take_turns-answer-requires-clause-stands
take_turns-answer-requires-clause-stands g c = lent_stands c.args.self.now c.args.loan.now c.lend-reads.result.0 c.args.frames.now c.args.many.now c.lend-reads.ensures.lent c.requires.stands

pub returns : goal.returns
returns g c ds stack =
    loan_went c.args.loan.now c.lend-reads.result.0 c.take_turns-answer.new.reads c.lend-reads.new.loan c.settle.new.self c.lend-reads.ensures.lent c.lend-reads.ensures.bare c.settle.ensures c.args.self.now ds c.args.frames.now c.args.many.now c.take_turns-answer.new.frames c.take_turns-answer.new.many c.take_turns-answer.result
    (c.take_turns-answer.ensures ds (subst (λ b. AreLeft c.args.self.now b c.args.frames.now c.args.many.now ds) (sym (ap (λ (x : Lent). x.bytes) c.lend-reads.ensures.lent)) stack))
