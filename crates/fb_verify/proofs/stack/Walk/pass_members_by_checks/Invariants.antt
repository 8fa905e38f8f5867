use Rattle.fb_verify.proofs.stack.Walk.pass_members_by_checks.Given as goal

-- the same frames wait
abbrev pub ghost-pass_members : goal.ghost-pass_members
ghost-pass_members g a = g.under
