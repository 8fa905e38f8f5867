use Rattle.fb_run.specs.Ends.{writer_of}
use Rattle.fbcheck_serve.proofs.serve.serve.Goals as goal

pub returns-clause-served : goal.returns-clause-served
returns-clause-served g c = record {
  outcome = c.come_to-outcome.result;
  sums = c.come_to-outcome.new.sums;
  between = writer_of g.N.Sink c.come_to-outcome.new.notes;
  comes = c.come_to-outcome.ensures.comes.0;
  ends = c.come_to-outcome.ensures.comes.1.ends;
  form = c.come_to-outcome.new.told;
  form_is = c.come_to-outcome.ensures.form;
  ending = c.sum_up-ending.result;
  behind = writer_of g.N.Sink c.sum_up-ending.new.notes;
  summed = c.sum_up-ending.ensures;
  told = rw (c.cause.ensures, c.cause-2.ensures) at c.tell.ensures;
  status_is = c.exit_status.ensures;
}
