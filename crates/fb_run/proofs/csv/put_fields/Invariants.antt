use Rattle.std.proofs.Common.{List, ℕ, map, take}
use Rattle.fb_access.specs.Denotes.{shown}
use Rattle.fb_run.specs.{Csv.AreJoined, Puts.Puts, Puts.queue_of}
use Rattle.fb_run.proofs.csv.put_fields.Given as goal

abbrev pub invariant-loop-index : goal.invariant-loop-index
invariant-loop-index g l =
    (text : List ℕ) × AreJoined l.notation (map shown (take l.index l.answers)) text × Puts text (queue_of g.K.Sink l.initial.out l.initial.sink) (queue_of g.K.Sink l.out l.sink)
