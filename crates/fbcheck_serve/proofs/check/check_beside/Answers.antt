use Rattle.fb_run.specs.{Ends.nowhere, Job.job_of, Leave.ends_of}
use Rattle.fb_run.proofs.RunLemmas.{err_is}
use Rattle.fbcheck_serve.proofs.AskedLemmas.{idle}
use Rattle.fbcheck_serve.proofs.check.check_beside.Goals as goal

pub returns-clause-run : goal.returns-clause-run
returns-clause-run g c = (job_of c.in_ok-asked.asked.schema c.in_ok-asked.asked.options, c.in_ok-asked.ensures.job, c.run_asked.ensures.run)

pub returns-clause-end : goal.returns-clause-end
returns-clause-end g c = c.run_asked.ensures.end

pub run_asked-requires-clause-leave : goal.run_asked-requires-clause-leave
run_asked-requires-clause-leave g c now prompt unended =
    c.requires.leave now (job_of c.in_ok-asked.asked.schema c.in_ok-asked.asked.options, c.in_ok-asked.ensures.job, nowhere, now.outs.rejects, prompt) unended

pub returns-in_err-asked-clause-run : goal.returns-in_err-asked-clause-run
returns-in_err-asked-clause-run g c =
    rw (err_is _ _ c.from_residual.ensures.1) (c.in_err-asked.ensures.none, idle (ends_of g.S.Input g.K.Sink g.N.Sink c.args.reader.now c.args.writer.now c.args.notes.now))
