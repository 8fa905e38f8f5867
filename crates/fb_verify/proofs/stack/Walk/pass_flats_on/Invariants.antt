use Rattle.fb_verify.proofs.stack.Walk.pass_flats_on.Given as goal

-- the same frames wait
abbrev pub ghost-pass_flats_by_published : goal.ghost-pass_flats_by_published
ghost-pass_flats_by_published g a = g.under

abbrev pub ghost-pass_flats_by_checks : goal.ghost-pass_flats_by_checks
ghost-pass_flats_by_checks g a = g.under

abbrev pub ghost-pass_small_by_published : goal.ghost-pass_small_by_published
ghost-pass_small_by_published g a = g.under
