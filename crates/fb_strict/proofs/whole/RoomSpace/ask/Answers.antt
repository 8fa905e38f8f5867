use Rattle.std.proofs.Common.{length, ◌∙◌, ap}
use Rattle.fb_verify.proofs.Frames.{as_many_kept}
use Rattle.fb_strict.proofs.whole.RoomSpace.ask.Goals as goal

-- src/whole.rt
pub returns-clause-same : goal.returns-clause-same
returns-clause-same g c =
    let frames = c.self.inside.frames in
    as_many_kept c.whole.new.frames _ frames.items (c.whole.auto.frames ∙ ap length c.deref_mut.ensures.value) frames.ok.0 c.self.view_is
