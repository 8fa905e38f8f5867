use Rattle.fb_run.proofs.LineLemmas.{drop_whole}
use Rattle.fb_run.proofs.line.Line.clear.Goals as goal

pub returns : goal.returns
returns c = drop_whole c.self.inside.room 768 c.self.invariant.0
