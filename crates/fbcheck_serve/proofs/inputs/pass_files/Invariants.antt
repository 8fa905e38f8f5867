use Rattle.std.proofs.Common.{◌≡◌, ◌++◌, ◌+◌, ◌≤◌, List, Option, drop, length, ℕ}
use Rattle.fb_rules.specs.Reasons.{reason_count}
use Rattle.fb_run.specs.Job.{Serves, job_of}
use Rattle.fbcheck_serve.specs.{Inputs.PassesAll, Inputs.at_first, Inputs.folder_of, Inputs.all_seen, Inputs.with_label, Inputs.stand, Inputs.are_named, Names.Named}
use Rattle.fbcheck_serve.specs.declared.inputs.Standard.TheVariants.{Unread}
use Rattle.fbcheck_serve.proofs.inputs.pass_files.Given as goal

-- the files before this one were gone through, and standard input is as it was, unless it was among them
abbrev pub invariant-loop-name : goal.invariant-loop-name
invariant-loop-name g l = record {
  passes : (front : List Named) × (l.names ≡ front ++ drop l.name-index l.names)
      × PassesAll (folder_of g.F.Files g.F.Opened.Input g.F.Opened.Explains l.files) (job_of l.schema l.initial.options) (are_named (job_of l.schema l.initial.options).label l.names) front
      (at_first (all_seen g.S.Input g.S.Explains g.K.Sink g.N.Sink g.R.Sink l.initial.reader l.initial.writer l.initial.notes l.initial.rejects)) (stand (all_seen g.S.Input g.S.Explains g.K.Sink g.N.Sink g.R.Sink l.reader l.writer l.notes l.rejects) l.course);
  job : (label : Option (List ℕ)) × (job_of l.schema l.options ≡ with_label label (job_of l.schema l.initial.options));
  serves : Serves l.schema l.options;
  places : length l.course.tally.reasons ≡ reason_count;
  unread : l.course.standard ≡ Unread → l.reader ≡ l.initial.reader;
  turns : g.S.Input.calls l.reader ≤ g.S.Input.calls l.initial.reader + 4294967296;
}
