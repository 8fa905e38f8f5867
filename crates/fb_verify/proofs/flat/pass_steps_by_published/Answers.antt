use Rattle.fb_verify.proofs.flat.pass_steps_by_published.Goals as goal

pub returns : goal.returns
returns g c = rw c.settle.ensures (rw c.lend-own.ensures.lent at c.pass_steps-passed.ensures)

pub pass_steps-passed-requires : goal.pass_steps-passed-requires
pass_steps-passed-requires g c = rw c.lend-own.ensures.lent c.requires
