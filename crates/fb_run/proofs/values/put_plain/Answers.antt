use Rattle.std.proofs.Common.{[], codes, refl}
use Rattle.fb_run.specs.{AnswerText.spaced_answer, Puts.queue_of}
use Rattle.fb_run.proofs.PutsLemmas.{puts_each, puts_none, puts_tail}
use Rattle.fb_run.proofs.values.put_plain.Goals as goal

pub loop-answer-init : goal.loop-answer-init
loop-answer-init g c = puts_none (queue_of g.K.Sink c.args.out.now c.args.sink.now)

pub loop-answer-preserved : goal.loop-answer-preserved
loop-answer-preserved g c =
    puts_each spaced_answer c.args.answers.now [] (queue_of g.K.Sink c.args.out.now c.args.sink.now) (queue_of g.K.Sink c.loop-answer.out c.loop-answer.sink) c.loop-answer.answer-index _
    (queue_of g.K.Sink c.put_spaced.new.out c.put_spaced.new.sink) c.loop-answer-test.true refl c.loop-answer.invariant c.put_spaced.ensures

pub returns : goal.returns
returns g c =
    puts_tail spaced_answer c.args.answers.now [] (queue_of g.K.Sink c.args.out.now c.args.sink.now) (queue_of g.K.Sink c.loop-answer.out c.loop-answer.sink) c.loop-answer.answer-index (codes "\n")
    (queue_of g.K.Sink c.put.new.self c.put.new.sink) c.loop-answer-test.false c.loop-answer.invariant c.put.ensures.puts
