use Rattle.std.proofs.Common.{sym, subst}
use Rattle.fb_strict.specs.Passing.{IsPassing, IsRoom}
use Rattle.fb_strict.proofs.Looping.{begins, less, turns_on, comes_in, stops}
use Rattle.fb_strict.proofs.pass.Pass.take_turns.Goals as goal

-- src/pass.rt
pub loop-open-init : goal.loop-open-init
loop-open-init g c = begins c.args.self.now c.args.reads.now c.args.frames.now c.args.many.now c.requires.stands

pub loop-open-preserved : goal.loop-open-preserved
loop-open-preserved g c =
    turns_on c.args.self.now c.args.reads.now c.loop-open.reads c.args.frames.now c.args.many.now c.loop-open.frames c.loop-open.open c.loop-open.invariant c.turn.new.reads c.turn.new.frames c.in-Ok-Open.then c.turn.result (rw c.in-Ok-Open.field-0-is at c.in-Ok-Open.is) c.turn.ensures c.turn.auto.frames

pub loop-open-smaller : goal.loop-open-smaller
loop-open-smaller g c =
    less c.args.self.now c.args.reads.now c.loop-open.reads c.args.frames.now c.args.many.now c.loop-open.frames c.loop-open.open c.loop-open.invariant c.turn.new.reads c.turn.new.frames c.in-Ok-Open.then c.turn.result (rw c.in-Ok-Open.field-0-is at c.in-Ok-Open.is) c.turn.ensures c.turn.auto.frames

pub turn-requires-clause-passing : goal.turn-requires-clause-passing
turn-requires-clause-passing g c = subst (λ b. IsPassing c.args.self.now b) (sym c.loop-open.invariant.bytes) c.requires.passing

pub turn-requires-clause-room : goal.turn-requires-clause-room
turn-requires-clause-room g c = subst (λ n. IsRoom c.args.self.now.limits n c.args.room) (sym c.loop-open.invariant.base) c.requires.room

pub turn-requires-clause-left : goal.turn-requires-clause-left
turn-requires-clause-left g c = (c.loop-open.invariant.stands.left, c.loop-open.invariant.stands.stack)

pub returns-in-Err : goal.returns-in-Err
returns-in-Err g c ds stack =
    stops c.args.self.now c.args.reads.now c.loop-open.reads c.args.frames.now c.args.many.now c.loop-open.frames c.loop-open.open c.loop-open.invariant c.turn.new.reads c.turn.new.frames c.in-Err.halt c.turn.result c.in-Err.is c.turn.ensures ds stack

pub returns-in-Ok-Inside : goal.returns-in-Ok-Inside
returns-in-Ok-Inside g c ds stack =
    comes_in c.args.self.now c.args.reads.now c.loop-open.reads c.args.frames.now c.args.many.now c.loop-open.frames c.loop-open.open c.loop-open.invariant c.turn.new.reads c.turn.new.frames c.in-Ok-Inside.inner c.turn.result (rw c.in-Ok-Inside.field-0-is at c.in-Ok-Inside.is) c.turn.ensures ds stack
