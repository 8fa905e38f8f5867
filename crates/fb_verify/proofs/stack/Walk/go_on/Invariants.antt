use Rattle.fb_verify.proofs.stack.Walk.go_on.Given as goal

-- the walk began where it did
abbrev pub ghost-walk_on : goal.ghost-walk_on
ghost-walk_on g a = g.start

abbrev pub ghost-go_slowly : goal.ghost-go_slowly
ghost-go_slowly g a = g.start
