use Rattle.std.proofs.Common.{◌∙◌, inl, inr, refl}
use Rattle.fb_run.specs.{Ends.with_writer, Ends.writer_of, Job.job_of, Leave.all_ends}
use Rattle.fbcheck_serve.proofs.HeadLemmas.{is_cut, stands}
use Rattle.fbcheck_serve.proofs.check.pass_asked.Goals as goal

pub returns-clause-served : goal.returns-clause-served
returns-clause-served g c =
    let before = all_ends g.S.Input g.K.Sink g.N.Sink g.R.Sink c.args.reader.now c.args.writer.now c.args.notes.now c.args.rejects.now in
    let job = job_of c.args.asked.now.schema c.args.asked.now.options in
    let writer = writer_of g.K.Sink c.write_head.new.writer in
    inl (with_writer before writer, stands job c.args.names.now before c.as_slice.result.now writer (c.as_slice.ensures.value ∙ c.requires.head) c.in_default.ensures, c.pass_files.ensures.serves)

pub returns-in-Err-clause-served : goal.returns-in-Err-clause-served
returns-in-Err-clause-served g c =
    let before = all_ends g.S.Input g.K.Sink g.N.Sink g.R.Sink c.args.reader.now c.args.writer.now c.args.notes.now c.args.rejects.now in
    let job = job_of c.args.asked.now.schema c.args.asked.now.options in
    rw (c.none.ensures.course, c.none.ensures.end)
    (inr (is_cut job c.args.names.now before c.as_slice.result.now (writer_of g.K.Sink c.write_head.new.writer) (c.as_slice.ensures.value ∙ c.requires.head) c.in-Err.fault c.in-Err.ensures, refl, refl))

pub pass_files-requires-clause-leave : goal.pass_files-requires-clause-leave
pass_files-requires-clause-leave g c now prompt unended =
    let before = all_ends g.S.Input g.K.Sink g.N.Sink g.R.Sink c.args.reader.now c.args.writer.now c.args.notes.now c.args.rejects.now in
    let job = job_of c.args.asked.now.schema c.args.asked.now.options in
    let writer = writer_of g.K.Sink c.write_head.new.writer in
    c.requires.leave now (with_writer before writer, stands job c.args.names.now before c.as_slice.result.now writer (c.as_slice.ensures.value ∙ c.requires.head) c.in_default.ensures, prompt) unended

pub pass_files-requires-clause-files : goal.pass_files-requires-clause-files
pass_files-requires-clause-files g c =
    let before = all_ends g.S.Input g.K.Sink g.N.Sink g.R.Sink c.args.reader.now c.args.writer.now c.args.notes.now c.args.rejects.now in
    let job = job_of c.args.asked.now.schema c.args.asked.now.options in
    let writer = writer_of g.K.Sink c.write_head.new.writer in
    c.requires.files (with_writer before writer) (stands job c.args.names.now before c.as_slice.result.now writer (c.as_slice.ensures.value ∙ c.requires.head) c.in_default.ensures)
