use Rattle.fb_verify.proofs.stack.Walk.pass_flats_by_published.Goals as goal

pub returns : goal.returns
returns g c child = rw c.settle.ensures (rw c.lend-own.ensures.lent at (c.pass_flats-turn.ensures child))

pub pass_flats-turn-requires : goal.pass_flats-turn-requires
pass_flats-turn-requires g c = rw c.lend-own.ensures.lent (c.requires.0, (c.requires.1.0, ((λ e. absurd cc), λ _. c.requires.1.1)))
