use Rattle.std.proofs.Common.{arith}
use Rattle.fb_strict.proofs.Answered.{answered}
use Rattle.fb_strict.proofs.pass.Pass.answer.Goals as goal

-- src/pass.rt
pub returns-then-count-room : goal.returns-then-count-room
returns-then-count-room g c m chain n h =
    answered c.args.site c.args.self.now.limits m c.args.reads.now chain n c.args.tested c.args.at c.args.room c.count.result c.requires.room c.count.ensures.since (omega (arith, c.count.type_inv)) c.if-count-room.true (rw c.in_default.is at h)
