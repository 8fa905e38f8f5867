use Rattle.fb_verify.proofs.stack.Walk.go_into.Given as goal

-- the same frames wait
abbrev pub ghost-go_to_table : goal.ghost-go_to_table
ghost-go_to_table g a = g.under

abbrev pub ghost-go_far : goal.ghost-go_far
ghost-go_far g a = g.under
