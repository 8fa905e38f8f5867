use Rattle.std.proofs.Common.{sym, subst, arith}
use Rattle.fb_strict.specs.Passing.{IsPassing}
use Rattle.fb_strict.proofs.Looping.{begins, far_stops, far_in, in_stands, far_less, far_on, far_ends}
use Rattle.fb_strict.proofs.pass.Pass.go_on.Goals as goal

-- src/pass.rt
pub loop-many-init : goal.loop-many-init
loop-many-init g c = begins c.args.self.now c.args.loan.now c.args.frames.now c.args.many.now c.requires.stands

pub go_far-requires-clause-passing : goal.go_far-requires-clause-passing
go_far-requires-clause-passing g c = subst (λ b. IsPassing c.args.self.now b) (sym c.loop-many.invariant.bytes) c.requires.passing

pub loop-many-preserved : goal.loop-many-preserved
loop-many-preserved g c =
    far_on c.args.self.now c.args.loan.now c.loop-many.loan c.go_far.new.loan c.args.frames.now c.args.many.now c.loop-many.frames c.loop-many.many c.loop-many.invariant c.go_far.new.frames c.go_far.new.many (λ ds s. rw (c.in-Ok-None.is, c.in-Ok-None.field-0-is) at (c.go_far.ensures ds s)) c.go_far.auto.frames

pub loop-many-smaller : goal.loop-many-smaller
loop-many-smaller g c =
    far_less c.args.self.now c.args.loan.now c.loop-many.loan c.go_far.new.loan c.args.frames.now c.args.many.now c.loop-many.frames c.loop-many.many c.loop-many.invariant c.go_far.new.frames c.go_far.new.many (λ ds s. rw (c.in-Ok-None.is, c.in-Ok-None.field-0-is) at (c.go_far.ensures ds s)) c.go_far.auto.frames

pub returns-in-Ok-Some-clause-went : goal.returns-in-Ok-Some-clause-went
returns-in-Ok-Some-clause-went g c = far_in c.args.self.now c.args.loan.now c.loop-many.loan c.go_far.new.loan c.args.frames.now c.args.many.now c.loop-many.frames c.loop-many.many c.loop-many.invariant c.go_far.new.frames c.go_far.new.many c.in-Ok-Some.inner (λ ds s. rw (c.in-Ok-Some.is, c.in-Ok-Some.field-0-is) at (c.go_far.ensures ds s))

pub returns-in-Ok-Some-clause-stands : goal.returns-in-Ok-Some-clause-stands
returns-in-Ok-Some-clause-stands g c = in_stands c.args.self.now c.args.loan.now c.loop-many.loan c.go_far.new.loan c.args.frames.now c.args.many.now c.loop-many.frames c.loop-many.many c.loop-many.invariant c.go_far.new.frames c.go_far.new.many c.in-Ok-Some.inner (λ ds s. rw (c.in-Ok-Some.is, c.in-Ok-Some.field-0-is) at (c.go_far.ensures ds s)) c.go_far.auto.frames

pub returns-in-Err-clause-went : goal.returns-in-Err-clause-went
returns-in-Err-clause-went g c = far_stops c.args.self.now c.args.loan.now c.loop-many.loan c.go_far.new.loan c.args.frames.now c.args.many.now c.loop-many.frames c.loop-many.many c.loop-many.invariant c.go_far.new.frames c.in-Err.halt (λ ds s. rw c.in-Err.is at (c.go_far.ensures ds s))

pub returns-clause-went : goal.returns-clause-went
returns-clause-went g c = far_ends c.args.self.now c.args.loan.now c.loop-many.loan c.args.frames.now c.args.many.now c.loop-many.frames c.loop-many.many c.loop-many.invariant (omega (arith, c.loop-many-test.false))
