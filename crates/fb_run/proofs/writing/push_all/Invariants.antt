use Rattle.std.proofs.Common.{◌≡◌, ◌++◌, List, ℕ, length}
use Rattle.std.specs.Io.KnownBytes.{Appends}
use Rattle.fb_run.proofs.writing.push_all.Given as goal

abbrev pub invariant-loop-sink : goal.invariant-loop-sink
invariant-loop-sink g l = record {
  bytes : (front : List ℕ) × (l.text ≡ front ++ l.rest) × Appends (g.K.Sink.contents l.initial.sink) (g.K.Sink.contents l.sink) front;
  failures : g.K.Sink.failures l.sink ≡ g.K.Sink.failures l.initial.sink;
}

abbrev pub decreases-loop-sink : goal.decreases-loop-sink
decreases-loop-sink g l = length l.rest
