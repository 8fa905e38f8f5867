use Rattle.std.proofs.Common.{refl}
use Rattle.fb_run.specs.{Job.job_of}
use Rattle.fbcheck_serve.proofs.InputsLemmas.{tries_of}
use Rattle.fbcheck_serve.specs.Inputs.{folder_of, all_seen}
use Rattle.fbcheck_serve.proofs.inputs.pass_file.Goals as goal

pub returns-clause-tries : goal.returns-clause-tries
returns-clause-tries g c =
    tries_of (folder_of g.F.Files g.F.Opened.Input g.F.Opened.Explains c.args.files.now) (job_of c.args.schema.now c.args.options.now) c.args.name.now _ _ c.tell_behind.result (record {
      came = c.run_file-came.result.what;
      cause = c.run_file-came.result.cause;
      between = all_seen g.S.Input g.S.Explains g.K.Sink g.N.Sink g.R.Sink c.run_file-came.new.reader c.run_file-came.new.writer c.run_file-came.new.notes c.run_file-came.new.rejects;
      comes = c.run_file-came.ensures.comes;
      told = rw c.bytes.ensures at c.tell_behind.ensures;
      others = refl;
      course_is = c.with.ensures.course;
    })
