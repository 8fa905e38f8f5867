use Rattle.fb_verify.proofs.stack.Walk.walk_by_checks.Given as goal

-- the walk began where it did
abbrev pub ghost-walk_by : goal.ghost-walk_by
ghost-walk_by g a = g.start
