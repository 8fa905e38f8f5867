use Rattle.std.proofs.Common.{[], ◌∷◌, ◌++◌}
use Rattle.fb_verify.proofs.stack.Walk.turn.Given as goal

-- the same frames wait
abbrev pub ghost-pass_top : goal.ghost-pass_top
ghost-pass_top g a = g.under

-- and the top, while a table below it is opened
abbrev pub ghost-open_child : goal.ghost-open_child
ghost-open_child g a = record { start = (g.under).start; frames = (g.under).frames ++ (a.above).now ∷ [] }
