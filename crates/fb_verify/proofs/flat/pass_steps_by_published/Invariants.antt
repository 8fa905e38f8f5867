use Rattle.fb_verify.proofs.flat.pass_steps_by_published.Given as goal

-- the same fields
abbrev pub ghost-pass_steps : goal.ghost-pass_steps
ghost-pass_steps g a = g.of
