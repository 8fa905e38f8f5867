use Rattle.fb_verify.proofs.stack.Walk.pass_top.Given as goal

-- the same frames wait
abbrev pub ghost-pass_row : goal.ghost-pass_row
ghost-pass_row g a = g.under

abbrev pub ghost-pass_fields : goal.ghost-pass_fields
ghost-pass_fields g a = g.under
