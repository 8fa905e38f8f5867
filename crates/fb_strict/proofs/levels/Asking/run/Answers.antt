use Rattle.std.proofs.Common.{arith}
use Rattle.fb_strict.proofs.Turning.{all_done}
use Rattle.fb_strict.proofs.levels.Asking.run.Goals as goal

-- src/levels.rt
pub returns-clause-yes : goal.returns-clause-yes
returns-clause-yes g c = all_done c.args.self.now c.loop-many.spent c.loop-many.frames c.loop-many.levels c.loop-many.many (omega (arith, c.loop-many-test.false)) c.loop-many.invariant.under
