use Rattle.std.proofs.Common.{None}
use Rattle.fb_strict.proofs.Answered.{ok_for, only_read}
use Rattle.fb_strict.proofs.pass.Pass.follow.Goals as goal

-- src/uoffsets.rt
pub returns-clause-asked : goal.returns-clause-asked
returns-clause-asked g c =
    let m = c.args.reads.now in
    ok_for _ _ c.args.site c.args.self.now.limits m c.u32_at.new.self None 1 c.args.place (c.in_ok-answer.ensures m None 1 (only_read m c.u32_at.new.self c.args.place 1 c.u32_at.ensures.counted))
