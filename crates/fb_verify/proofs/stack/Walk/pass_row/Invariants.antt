use Rattle.fb_verify.proofs.stack.Walk.pass_row.Given as goal

-- the same frames wait
abbrev pub ghost-pass_row_by_checks : goal.ghost-pass_row_by_checks
ghost-pass_row_by_checks g a = g.under

abbrev pub ghost-pass_row_by : goal.ghost-pass_row_by
ghost-pass_row_by g a = g.under
