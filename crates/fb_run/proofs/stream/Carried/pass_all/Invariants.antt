use Rattle.std.proofs.Common.{length, ◌≡◌}
use Rattle.fb_run.specs.{Ends.all_outs, Leave.reader_of, Pieces.carry_of}
use Rattle.fb_run.proofs.RunLemmas.{Sofar}
use Rattle.fb_run.proofs.stream.Carried.pass_all.Given as goal

abbrev pub invariant-loop-left : goal.invariant-loop-left
invariant-loop-left g l = record {
  room : length l.piece.items ≡ 65536;
  sofar : Sofar l.checker (reader_of g.S.Input l.initial.reader) (reader_of g.S.Input l.reader) (all_outs g.K.Sink g.N.Sink g.R.Sink l.initial.writer l.initial.notes l.initial.rejects)
      (carry_of g.K.Sink g.N.Sink g.R.Sink l.self l.writer l.notes l.rejects) l.skip l.initial.left l.left;
}

abbrev pub decreases-loop-left : goal.decreases-loop-left
decreases-loop-left g l = l.left
