use Rattle.fb_verify.proofs.flat.pass_steps.Given as goal

-- the same fields
abbrev pub ghost-pass_by : goal.ghost-pass_by
ghost-pass_by g a = g.of
