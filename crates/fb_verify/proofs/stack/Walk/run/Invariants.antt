use Rattle.std.proofs.Common.{[]}
use Rattle.fb_verify.proofs.stack.Walk.run.Given as goal

-- the walk goes on from where this one began
abbrev pub ghost-go_on : goal.ghost-go_on
ghost-go_on g a = g.start

abbrev pub ghost-go_deeper : goal.ghost-go_deeper
ghost-go_deeper g a = g.start

-- the root table is opened, and no frame waits
abbrev pub ghost-pass_root : goal.ghost-pass_root
ghost-pass_root g a = record { walk = a.self.now; under = record { start = g.start; frames = [] } }
