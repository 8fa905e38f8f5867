use Rattle.fb_verify.proofs.stack.Walk.next_table.Given as goal

-- the same frames wait
abbrev pub ghost-take_word : goal.ghost-take_word
ghost-take_word g a = g.under
