use Rattle.fb_verify.proofs.stack.Walk.pass_words.Given as goal

-- the same frames wait
abbrev pub ghost-pass_words_of : goal.ghost-pass_words_of
ghost-pass_words_of g a = g.under
