use Rattle.fb_verify.proofs.stack.Walk.go_far.Given as goal

-- the same frames wait
abbrev pub ghost-put_far : goal.ghost-put_far
ghost-put_far g a = g.under

abbrev pub ghost-pass_row_by : goal.ghost-pass_row_by
ghost-pass_row_by g a = g.under

abbrev pub ghost-go_far_by_checks : goal.ghost-go_far_by_checks
ghost-go_far_by_checks g a = g.under

abbrev pub ghost-go_to_union : goal.ghost-go_to_union
ghost-go_to_union g a = g.under
