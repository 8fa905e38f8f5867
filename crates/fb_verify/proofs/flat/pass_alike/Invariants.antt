use Rattle.fb_verify.specs.Stack.{opened}
use Rattle.fb_verify.proofs.flat.pass_alike.Given as goal

-- the same walk, from the first field on
abbrev pub ghost-pass_steps : goal.ghost-pass_steps
ghost-pass_steps g a = record { walk = (g.going).walk; under = (g.going).under; top = opened a.table }
