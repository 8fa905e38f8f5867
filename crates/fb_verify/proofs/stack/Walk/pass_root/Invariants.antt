use Rattle.fb_verify.specs.Stack.{opened}
use Rattle.fb_verify.proofs.stack.Walk.pass_root.Given as goal

-- the same walk, from the first field of the root on
abbrev pub ghost-pass_by_sizes : goal.ghost-pass_by_sizes
ghost-pass_by_sizes g a = record { walk = (g.going).walk; under = (g.going).under; top = opened a.table }
