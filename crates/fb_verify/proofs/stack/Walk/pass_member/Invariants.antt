use Rattle.std.proofs.Common.{[], ◌∷◌, ◌++◌}
use Rattle.fb_verify.proofs.stack.Walk.pass_member.Given as goal

-- the top waits for the table that is passed
abbrev pub ghost-pass_flat : goal.ghost-pass_flat
ghost-pass_flat g a = record { walk = (a.walk).now; under = record { start = (g.under).start; frames = (g.under).frames ++ record (a.above).now { row = a.row } ∷ [] } }
