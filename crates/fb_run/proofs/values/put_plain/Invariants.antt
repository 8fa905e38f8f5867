use Rattle.std.proofs.Common.{take}
use Rattle.std.specs.List.{flat_map}
use Rattle.fb_run.specs.{AnswerText.spaced_answer, Puts.Puts, Puts.queue_of}
use Rattle.fb_run.proofs.values.put_plain.Given as goal

abbrev pub invariant-loop-answer : goal.invariant-loop-answer
invariant-loop-answer g l = Puts (flat_map spaced_answer (take l.answer-index l.answers)) (queue_of g.K.Sink l.initial.out l.initial.sink) (queue_of g.K.Sink l.out l.sink)
