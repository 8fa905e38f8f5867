use Rattle.fb_verify.proofs.flat.pass_by_sizes.Given as goal

-- the same fields
abbrev pub ghost-pass_small_steps : goal.ghost-pass_small_steps
ghost-pass_small_steps g a = g.of

abbrev pub ghost-pass_steps_by_published : goal.ghost-pass_steps_by_published
ghost-pass_steps_by_published g a = g.of
