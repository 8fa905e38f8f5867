use Rattle.fb_run.specs.Leave.{noteless}
use Rattle.fb_run.proofs.RunLemmas.{ends_answer}
use Rattle.fb_run.proofs.run.run_within.Goals as goal

pub returns-clause-run : goal.returns-clause-run
returns-clause-run g c = (c.run_beside.result.tally, c.run_beside.result.end, c.run_beside.ensures.run, c.answer.ensures)

pub returns-clause-end : goal.returns-clause-end
returns-clause-end g c =
    ends_answer (noteless g.S.Input g.K.Sink c.args.reader.now c.args.writer.now) (noteless g.S.Input g.K.Sink c.run_beside.new.reader c.run_beside.new.writer)
    c.args.turns c.run_beside.result.tally c.run_beside.result.end _ c.answer.ensures c.run_beside.ensures.end
