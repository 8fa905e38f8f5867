use Rattle.std.proofs.Common.{◌≡◌, ◌++◌, List, ℕ, length}
use Rattle.std.specs.List.{flat_map}
use Rattle.fb_run.specs.{AnswerText.spelled, Puts.Puts, Puts.queue_of}
use Rattle.fb_run.proofs.values.put_bytes.Given as goal

abbrev pub invariant-loop-rest : goal.invariant-loop-rest
invariant-loop-rest g l =
    (front : List ℕ) × (l.bytes ≡ front ++ l.rest) × Puts (l.head ++ flat_map (spelled l.spelling) front) (queue_of g.K.Sink l.fn.out l.fn.sink) (queue_of g.K.Sink l.out l.sink)

abbrev pub decreases-loop-rest : goal.decreases-loop-rest
decreases-loop-rest g l = length l.rest
