use Rattle.fb_verify.proofs.stack.Walk.go_far_by_checks.Given as goal

-- the same frames wait
abbrev pub ghost-put_far : goal.ghost-put_far
ghost-put_far g a = g.under

abbrev pub ghost-pass_row : goal.ghost-pass_row
ghost-pass_row g a = g.under
