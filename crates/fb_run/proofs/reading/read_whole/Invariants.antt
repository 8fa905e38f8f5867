use Rattle.std.proofs.Common.{length, ◌≡◌}
use Rattle.fb_run.specs.Leave.{reader_of}
use Rattle.fb_run.proofs.WholeLemmas.{Gathered}
use Rattle.fb_run.proofs.reading.read_whole.Given as goal

abbrev pub invariant-loop-left : goal.invariant-loop-left
invariant-loop-left g l = record {
  room : length l.piece.items ≡ 65536;
  gathered : Gathered l.checker (reader_of g.S.Input l.initial.source) (reader_of g.S.Input l.source) l.whole.items l.skip l.initial.left l.left;
}

abbrev pub decreases-loop-left : goal.decreases-loop-left
decreases-loop-left g l = l.left
