use Rattle.std.proofs.Common.{◌≡◌, length, map, take}
use Rattle.fb_access.specs.Denotes.{shown}
use Rattle.fb_run.specs.Job.{AreAnswers}
use Rattle.fb_run.proofs.checker.answers_in.Given as goal

abbrev pub invariant-loop-asked : goal.invariant-loop-asked
invariant-loop-asked l = record {
  found : AreAnswers l.verified.bytes l.verified.schema l.verified.start l.verified.root (take l.asked-index l.paths) (map shown l.answers);
  count : length l.answers ≡ l.asked-index;
}
