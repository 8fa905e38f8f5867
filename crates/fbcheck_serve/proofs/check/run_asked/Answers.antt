use Rattle.std.proofs.Common.{◌∙◌, [], ap, inl, inr, length, refl, ℕ}
use Rattle.fb_run.specs.{Ends.with_writer, Ends.writer_of, Job.job_of, Leave.all_ends}
use Rattle.fbcheck_serve.specs.Heads.{with_head}
use Rattle.fbcheck_serve.proofs.HeadLemmas.{ends_cut, ends_headed, is_cut, stands}
use Rattle.fbcheck_serve.proofs.check.run_asked.Goals as goal

pub returns-clause-run : goal.returns-clause-run
returns-clause-run g c =
    let before = all_ends g.S.Input g.K.Sink g.N.Sink g.R.Sink c.args.reader.now c.args.writer.now c.args.notes.now c.args.rejects.now in
    let job = job_of c.args.asked.now.schema c.args.asked.now.options in
    let writer = writer_of g.K.Sink c.write_head.new.writer in
    inl (
      with_writer before writer,
      c.run_keeping-ran.result.end,
      stands job [] before c.as_slice-head.result.now writer (c.as_slice-head.ensures.value ∙ c.requires.head) c.in_default.ensures,
      c.run_keeping-ran.ensures.run,
      c.with_head.ensures ∙ ap (λ (n : ℕ). with_head n c.run_keeping-ran.result.end) (ap length (c.as_slice-head.ensures.value ∙ c.requires.head)),
    )

pub returns-clause-end : goal.returns-clause-end
returns-clause-end g c =
    let before = all_ends g.S.Input g.K.Sink g.N.Sink g.R.Sink c.args.reader.now c.args.writer.now c.args.notes.now c.args.rejects.now in
    let after = all_ends g.S.Input g.K.Sink g.N.Sink g.R.Sink c.run_keeping-ran.new.reader c.run_keeping-ran.new.writer c.run_keeping-ran.new.notes c.run_keeping-ran.new.rejects in
    rw c.with_head.ensures (ends_headed before after (writer_of g.K.Sink c.write_head.new.writer) 4294967296 (length c.as_slice-head.result.now) c.in_default.ensures.1 c.run_keeping-ran.result.end c.run_keeping-ran.ensures.end)

pub returns-in-Err-clause-run : goal.returns-in-Err-clause-run
returns-in-Err-clause-run g c =
    let before = all_ends g.S.Input g.K.Sink g.N.Sink g.R.Sink c.args.reader.now c.args.writer.now c.args.notes.now c.args.rejects.now in
    let job = job_of c.args.asked.now.schema c.args.asked.now.options in
    rw c.none.ensures
    (inr (is_cut job [] before c.as_slice-head.result.now (writer_of g.K.Sink c.write_head.new.writer) (c.as_slice-head.ensures.value ∙ c.requires.head) c.in-Err.fault c.in-Err.ensures, refl))

pub returns-in-Err-clause-end : goal.returns-in-Err-clause-end
returns-in-Err-clause-end g c =
    let before = all_ends g.S.Input g.K.Sink g.N.Sink g.R.Sink c.args.reader.now c.args.writer.now c.args.notes.now c.args.rejects.now in
    rw c.none.ensures (ends_cut before (writer_of g.K.Sink c.write_head.new.writer) 4294967296 c.as_slice-head.result.now c.in-Err.fault c.in-Err.ensures)

pub run_keeping-ran-requires-clause-leave : goal.run_keeping-ran-requires-clause-leave
run_keeping-ran-requires-clause-leave g c now prompt unended =
    let before = all_ends g.S.Input g.K.Sink g.N.Sink g.R.Sink c.args.reader.now c.args.writer.now c.args.notes.now c.args.rejects.now in
    let job = job_of c.args.asked.now.schema c.args.asked.now.options in
    let writer = writer_of g.K.Sink c.write_head.new.writer in
    c.requires.leave now (with_writer before writer, stands job [] before c.as_slice-head.result.now writer (c.as_slice-head.ensures.value ∙ c.requires.head) c.in_default.ensures, prompt) unended
