use Rattle.std.proofs.Common.{◌∙◌, ◌+◌, ◌++◌, [], length, Ok, Err, ap, drop, refl, rules, subst, sym}
use mathlib.Core.Logic.{inr}
use Rattle.std.proofs.Math.ListN.{drop_of_length-le}
use Rattle.fb_run.specs.{Ends.all_outs, Job.Job, Job.job_of, Leave.IsUnended, Leave.reader_of, Prompt.IsPrompt}
use Rattle.fbcheck_serve.specs.{Inputs.MayRead, Inputs.Tries, Inputs.folder_of, Inputs.label_of, Inputs.all_seen, Inputs.stand, Inputs.are_named, declared.inputs.Course.Course}
use Rattle.fbcheck_serve.proofs.InputsLemmas.{front_all, front_more, halts_among, next_name, relabelled, turns_on}
use Rattle.fbcheck_serve.proofs.inputs.pass_files.Goals as goal

pub loop-name-init : goal.loop-name-init
loop-name-init g c =
    let begun = all_seen g.S.Input g.S.Explains g.K.Sink g.N.Sink g.R.Sink c.args.reader.now c.args.writer.now c.args.notes.now c.args.rejects.now in
    record {
      passes = ([], refl, ap (λ (course : Course). stand begun course) c.new-course.ensures);
      job = ((job_of c.args.schema.now c.args.options.now).label, refl {a = job_of c.args.schema.now c.args.options.now});
      serves = c.requires.serves;
      places = ap (λ (course : Course). length course.tally.reasons) c.new-course.ensures;
      unread = λ is. refl;
      turns = search rules;
    }

pub pass_file-passed-requires-clause-leave : goal.pass_file-passed-requires-clause-leave
pass_file-passed-requires-clause-leave g c standard unread now prompt unended =
    let name = c.name-item.result in
    let before = all_seen g.S.Input g.S.Explains g.K.Sink g.N.Sink g.R.Sink c.loop-name.reader c.loop-name.writer c.loop-name.notes c.loop-name.rejects in
    let (front, are, passes) = c.loop-name.invariant.passes in
    let (old, is) = c.loop-name.invariant.job in
    let job = job_of c.args.schema.now c.args.options.now in
    let asked = relabelled c.args.schema.now c.loop-name.options job c.in-Ok.label old _ (are_named job.label c.args.names.now) _ name.bytes is c.in-Ok.ensures c.are_named-named.ensures c.bytes.ensures in
    c.requires.leave now (record {
      front = front;
      name = name;
      rest = drop (c.loop-name.name-index + 1) c.args.names.now;
      names_are = are ∙ ap (λ l. front ++ l) (next_name c.args.names.now c.loop-name.name-index name c.loop-name-test.true c.name-item.is);
      standard = standard;
      cause = g.S.Explains.cause c.args.reader.now;
      mid = stand before c.loop-name.course;
      passes = passes;
      unread = unread;
      prompt = subst (λ (j : Job). IsPrompt j before.ends now) asked prompt;
    }) (subst (λ reader. IsUnended (reader_of g.S.Input reader) now.reader) (c.loop-name.invariant.unread unread) unended)

pub pass_file-passed-requires-clause-files : goal.pass_file-passed-requires-clause-files
pass_file-passed-requires-clause-files g c other =
    let folder = folder_of g.F.Files g.F.Opened.Input g.F.Opened.Explains c.args.files.now in
    let name = c.name-item.result in
    let job = job_of c.args.schema.now c.args.options.now in
    let (front, are, passes) = c.loop-name.invariant.passes in
    let (old, is) = c.loop-name.invariant.job in
    let asked = relabelled c.args.schema.now c.loop-name.options job c.in-Ok.label old _ (are_named job.label c.args.names.now) _ name.bytes is c.in-Ok.ensures c.are_named-named.ensures c.bytes.ensures in
    let next = next_name c.args.names.now c.loop-name.name-index name c.loop-name-test.true c.name-item.is in
    subst (λ (j : Job). MayRead folder j name (all_outs g.K.Sink g.N.Sink g.R.Sink c.loop-name.writer c.loop-name.notes c.loop-name.rejects)) (sym asked)
    (c.requires.files front _ name (g.S.Explains.cause c.args.reader.now) _ (are ∙ ap (λ l. front ++ l) next) other passes)

pub loop-name-preserved : goal.loop-name-preserved
loop-name-preserved g c =
    let folder = folder_of g.F.Files g.F.Opened.Input g.F.Opened.Explains c.args.files.now in
    let name = c.name-item.result in
    let job = job_of c.args.schema.now c.args.options.now in
    let before = stand (all_seen g.S.Input g.S.Explains g.K.Sink g.N.Sink g.R.Sink c.loop-name.reader c.loop-name.writer c.loop-name.notes c.loop-name.rejects) c.loop-name.course in
    let after = stand (all_seen g.S.Input g.S.Explains g.K.Sink g.N.Sink g.R.Sink c.pass_file-passed.new.reader c.pass_file-passed.new.writer c.pass_file-passed.new.notes c.pass_file-passed.new.rejects) c.pass_file-passed.new.course in
    let (front, are, passes) = c.loop-name.invariant.passes in
    let (old, is) = c.loop-name.invariant.job in
    let serves = c.loop-name.invariant.serves in
    let asked = relabelled c.args.schema.now c.loop-name.options job c.in-Ok.label old _ (are_named job.label c.args.names.now) _ name.bytes is c.in-Ok.ensures c.are_named-named.ensures c.bytes.ensures in
    record {
      passes = front_more folder job (are_named job.label c.args.names.now) c.args.names.now front _ _ name _ before after are
          (next_name c.args.names.now c.loop-name.name-index name c.loop-name-test.true c.name-item.is) passes
          (subst (λ (j : Job). Tries folder j name before after (Ok tt)) asked c.in_default-passed.ensures.tries);
      job = (label_of (are_named job.label c.args.names.now) name.bytes, asked);
      serves = record { table = serves.table; fits = serves.fits; few = serves.few; terms = serves.terms; planned = serves.planned };
      places = c.pass_file-passed.ensures.places;
      unread = λ new. let (then, same) = c.pass_file-passed.ensures.unread new in same ∙ c.loop-name.invariant.unread then;
      turns = turns_on g.S.Input.calls c.loop-name.course.standard c.pass_file-passed.new.course.standard c.args.reader.now c.loop-name.reader c.pass_file-passed.new.reader
          c.loop-name.invariant.unread c.pass_file-passed.ensures.spent c.pass_file-passed.ensures.turns c.loop-name.invariant.turns;
    }

pub returns-in_default-clause-serves : goal.returns-in_default-clause-serves
returns-in_default-clause-serves g c =
    let name = c.name-item.result in
    let now = stand (all_seen g.S.Input g.S.Explains g.K.Sink g.N.Sink g.R.Sink c.loop-name.reader c.loop-name.writer c.loop-name.notes c.loop-name.rejects) c.loop-name.course in
    let (front, are, passes) = c.loop-name.invariant.passes in
    halts_among (folder_of g.F.Files g.F.Opened.Input g.F.Opened.Explains c.args.files.now) (job_of c.args.schema.now c.args.options.now) c.args.names.now front _ _ name _ now now _ are
    (next_name c.args.names.now c.loop-name.name-index name c.loop-name-test.true c.name-item.is) passes (inr (tt, refl))

pub returns-in-Err-clause-serves : goal.returns-in-Err-clause-serves
returns-in-Err-clause-serves g c =
    let folder = folder_of g.F.Files g.F.Opened.Input g.F.Opened.Explains c.args.files.now in
    let name = c.name-item.result in
    let job = job_of c.args.schema.now c.args.options.now in
    let before = stand (all_seen g.S.Input g.S.Explains g.K.Sink g.N.Sink g.R.Sink c.loop-name.reader c.loop-name.writer c.loop-name.notes c.loop-name.rejects) c.loop-name.course in
    let after = stand (all_seen g.S.Input g.S.Explains g.K.Sink g.N.Sink g.R.Sink c.pass_file-passed.new.reader c.pass_file-passed.new.writer c.pass_file-passed.new.notes c.pass_file-passed.new.rejects) c.pass_file-passed.new.course in
    let (front, are, passes) = c.loop-name.invariant.passes in
    let (old, is) = c.loop-name.invariant.job in
    let asked = relabelled c.args.schema.now c.loop-name.options job c.in-Ok.label old _ (are_named job.label c.args.names.now) _ name.bytes is c.in-Ok.ensures c.are_named-named.ensures c.bytes.ensures in
    halts_among folder job c.args.names.now front _ _ name _ before after c.in-Err.fault are
    (next_name c.args.names.now c.loop-name.name-index name c.loop-name-test.true c.name-item.is) passes
    (subst (λ (j : Job). Tries folder j name before after (Err c.in-Err.fault)) asked c.in-Err.ensures.tries)

pub returns-clause-serves : goal.returns-clause-serves
returns-clause-serves g c =
    let (front, are, passes) = c.loop-name.invariant.passes in
    front_all (folder_of g.F.Files g.F.Opened.Input g.F.Opened.Explains c.args.files.now) (job_of c.args.schema.now c.args.options.now) _ c.args.names.now front _ _ _ are
    (drop_of_length-le c.args.names.now c.loop-name-test.false) passes

pub returns-in-Err-clause-turns : goal.returns-in-Err-clause-turns
returns-in-Err-clause-turns g c =
    turns_on g.S.Input.calls c.loop-name.course.standard c.pass_file-passed.new.course.standard c.args.reader.now c.loop-name.reader c.pass_file-passed.new.reader
    c.loop-name.invariant.unread c.pass_file-passed.ensures.spent c.pass_file-passed.ensures.turns c.loop-name.invariant.turns
