use Rattle.fb_verify.proofs.stack.Walk.pass_small_by_published.Given as goal

-- the same frames wait
abbrev pub ghost-pass_flats : goal.ghost-pass_flats
ghost-pass_flats g a = g.under
