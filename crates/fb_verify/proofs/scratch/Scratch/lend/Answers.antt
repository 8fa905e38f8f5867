use Rattle.std.proofs.Common.{refl, sym, ◌∙◌, ap, length}
use Rattle.std.specs.List.{length_refill}
use Rattle.fb_verify.proofs.scratch.Scratch.lend.Goals as goal

pub returns : goal.returns
returns g c =
    let frames = c.self.inside.frames in
    ((refl, λ w. sym (length_refill frames.len frames.items w frames.ok.0) ∙ frames.ok.0 ∙ c.self.view_is), record { back = tt; room = ap length c.deref_mut.ensures.value ∙ c.self.view_is })
