use Rattle.fb_verify.proofs.stack.Walk.pass_members_on.Given as goal

-- the same frames wait
abbrev pub ghost-pass_members_by_published : goal.ghost-pass_members_by_published
ghost-pass_members_by_published g a = g.under

abbrev pub ghost-pass_members_by_checks : goal.ghost-pass_members_by_checks
ghost-pass_members_by_checks g a = g.under
