use Rattle.fbcheck_calls.proofs.handle.Handle.free.Goals as goal

pub returns : goal.returns
returns c = c.take.ensures.left
