use Rattle.fb_verify.proofs.stack.Walk.go_to_union.Given as goal

-- the same frames wait
abbrev pub ghost-pass_member : goal.ghost-pass_member
ghost-pass_member g a = g.under

abbrev pub ghost-go_far_by_checks : goal.ghost-go_far_by_checks
ghost-go_far_by_checks g a = g.under
