use Rattle.fb_verify.proofs.stack.Walk.turn_by_units.Given as goal

-- the same frames wait while the top goes on
abbrev pub ghost-pass_each : goal.ghost-pass_each
ghost-pass_each g a = g.under

abbrev pub ghost-pass_one : goal.ghost-pass_one
ghost-pass_one g a = g.under
