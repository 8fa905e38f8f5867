use Rattle.std.proofs.Common.{[], List, map, ℕ}
use Rattle.fb_access.specs.Denotes.{shown}
use Rattle.fb_run.specs.Puts.{Puts, queue_of}
use Rattle.fb_run.proofs.JsonLemmas.{Completes}
use Rattle.fb_run.proofs.values.put_members.Given as goal

abbrev pub invariant-loop-index : goal.invariant-loop-index
invariant-loop-index g l =
    (text : List ℕ) × Puts text (queue_of g.K.Sink l.initial.out l.initial.sink) (queue_of g.K.Sink l.out l.sink) × Completes (map (λ p. p.text) l.paths) (map shown l.answers) l.index text []
