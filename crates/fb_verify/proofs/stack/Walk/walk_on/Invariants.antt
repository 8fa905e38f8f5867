use Rattle.fb_verify.proofs.stack.Walk.walk_on.Given as goal

-- the walk began where it did
abbrev pub ghost-walk_by : goal.ghost-walk_by
ghost-walk_by g a = g.start

abbrev pub ghost-walk_by_checks : goal.ghost-walk_by_checks
ghost-walk_by_checks g a = g.start
