use Rattle.fb_verify.proofs.stack.Walk.pass_row_by.Given as goal

-- the same frames wait
abbrev pub ghost-pass_members_on : goal.ghost-pass_members_on
ghost-pass_members_on g a = g.under

abbrev pub ghost-next_table : goal.ghost-next_table
ghost-next_table g a = g.under

abbrev pub ghost-pass_flats_on : goal.ghost-pass_flats_on
ghost-pass_flats_on g a = g.under

abbrev pub ghost-pass_words : goal.ghost-pass_words
ghost-pass_words g a = g.under
