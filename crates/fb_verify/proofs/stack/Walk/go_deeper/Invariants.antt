use Rattle.fb_verify.proofs.stack.Walk.go_deeper.Given as goal

-- the walk began where it did
abbrev pub ghost-go_on : goal.ghost-go_on
ghost-go_on g a = g.start
