use Rattle.std.proofs.Common.{◌≡◌, ◌⊎◌, ◌∙◌, ◌++◌, ap, inr, refl, subst}
use Rattle.fb_run.specs.{Job.verdict_of, Line.front_in, Puts.Puts, Puts.queue_of}
use Rattle.fb_run.specs.declared.writing.Pending.{Pending}
use Rattle.fb_run.specs.declared.options.Mode.TheVariants.{Lines, BadLines, Csv, Filter}
use Rattle.fb_run.proofs.{PutsLemmas.puts_then, ToldLemmas.as_line, ToldLemmas.bad_as_line, ToldLemmas.bad_line_by, ToldLemmas.bad_line_said, ToldLemmas.good_line_said, ToldLemmas.line_of_no}
use Rattle.fb_run.proofs.ToldLemmas.{line_of_yes, line_said, message_said, none_said, note_said, row_as_line}
use Rattle.fb_run.proofs.output.Output.say.Goals as goal

pub returns-in_ok-make_front-in-Lines-clause-ok : goal.returns-in_ok-make_front-in-Lines-clause-ok
returns-in_ok-make_front-in-Lines-clause-ok g c =
    let job = c.args.checker.now in
    let verdict = verdict_of c.args.verdict.now in
    let lines : job.terms.mode ≡ Lines = rw c.terms-terms.ensures.value at c.in-Lines.is in
    let front = c.as_slice.result.now in
    let is : front ≡ front_in job.terms.form job c.args.spot.now verdict = c.as_slice.ensures.value ∙ c.in_ok-make_front-in-Lines.ensures.front in
    let (rest, behind_it, last) = rw (c.terms-terms.ensures.value, c.paths.ensures, c.as_slice-answers.ensures.value) at c.put_values.ensures in
    let first = subst (λ (p : Pending g.row.A.Denot). Puts front (queue_of g.K.Sink p c.args.writer.now) (queue_of g.K.Sink c.put.new.self c.put.new.sink)) c.make_front.ensures.out c.put.ensures.puts in
    let put = puts_then front rest (queue_of g.K.Sink c.args.self.now.out c.args.writer.now) (queue_of g.K.Sink c.put.new.self c.put.new.sink) (queue_of g.K.Sink c.put_values.new.out c.put_values.new.sink) first last in
    line_said _ _ c.args.message.now verdict _ _ _ _ lines (front ++ rest, as_line job c.args.spot.now verdict lines (front ++ rest) (rw c.in-Ok.is (line_of_yes job.terms.form job c.args.spot.now _ front rest (rw c.in-Ok.is at is) behind_it)), put) (ap (λ (p : Pending g.row.A.Denot). p.bytes.items) c.make_front.ensures.notes)

pub returns-in-BadLines-clause-ok : goal.returns-in-BadLines-clause-ok
returns-in-BadLines-clause-ok g c =
    let bads : c.args.checker.now.terms.mode ≡ BadLines = rw c.terms-terms.ensures.value at c.in-BadLines.is in
    none_said _ _ c.args.message.now (verdict_of c.args.verdict.now) _ _ _ _ _ (ap verdict_of c.in-Ok.is) bads refl refl

pub returns-in-Filter-clause-ok : goal.returns-in-Filter-clause-ok
returns-in-Filter-clause-ok g c =
    let filter : c.args.checker.now.terms.mode ≡ Filter = rw c.terms-terms.ensures.value at c.in-Filter.is in
    message_said _ _ c.args.message.now (verdict_of c.args.verdict.now) _ _ _ _ _ (ap verdict_of c.in-Ok.is) filter c.put-in-Filter.ensures.puts refl

pub returns-in-Csv-clause-ok : goal.returns-in-Csv-clause-ok
returns-in-Csv-clause-ok g c =
    let csv : c.args.checker.now.terms.mode ≡ Csv = rw c.terms-terms.ensures.value at c.in-Csv.is in
    let same = ap verdict_of c.in-Ok.is in
    let (row, is, put) = rw (c.label.ensures, c.as_slice-answers.ensures.value) at c.put_row.ensures in
    good_line_said _ _ c.args.message.now (verdict_of c.args.verdict.now) _ _ _ _ _ same (inr csv)
    (row, row_as_line c.args.checker.now c.args.spot.now (verdict_of c.args.verdict.now) _ same csv row is, put) refl

pub returns-in-Lines-mode-clause-ok : goal.returns-in-Lines-mode-clause-ok
returns-in-Lines-mode-clause-ok g c =
    let job = c.args.checker.now in
    let verdict = verdict_of c.args.verdict.now in
    let same = ap verdict_of c.in-Err.is in
    let lines : (job.terms.mode ≡ Lines) ⊎ (job.terms.mode ≡ BadLines) = rw c.terms-terms.ensures.value at c.in-Lines-mode.is in
    let front = c.as_slice-in-Lines-mode.result.now in
    let is : front ≡ front_in job.terms.form job c.args.spot.now verdict = c.as_slice-in-Lines-mode.ensures.value ∙ c.in_ok-make_front-in-Err.ensures.front in
    let put = subst (λ (p : Pending g.row.A.Denot). Puts front (queue_of g.K.Sink p c.args.writer.now) (queue_of g.K.Sink c.put-in-Lines-mode.new.self c.put-in-Lines-mode.new.sink)) c.make_front-in-Err.ensures.out c.put-in-Lines-mode.ensures.puts in
    bad_line_said _ _ c.args.message.now verdict _ _ _ _ _ same lines
    (front, bad_as_line job c.args.spot.now verdict _ same front (rw c.in-Err.is (line_of_no job.terms.form job c.args.spot.now _ front (rw c.in-Err.is at is))), put)
    (ap (λ (p : Pending g.row.A.Denot). p.bytes.items) c.make_front-in-Err.ensures.notes)

pub returns-in_ok-extend_from_slice-in-Filter-mode-clause-ok : goal.returns-in_ok-extend_from_slice-in-Filter-mode-clause-ok
returns-in_ok-extend_from_slice-in-Filter-mode-clause-ok g c =
    let job = c.args.checker.now in
    let verdict = verdict_of c.args.verdict.now in
    let noted : (job.terms.mode ≡ Filter) ⊎ (job.terms.mode ≡ Csv) = rw c.terms-terms.ensures.value at c.in-Filter-mode.is in
    let front = c.as_slice-in-Filter-mode.result.now in
    let is : front ≡ front_in job.terms.form job c.args.spot.now verdict = c.as_slice-in-Filter-mode.ensures.value ∙ c.in_ok-make_front-in-Err.ensures.front in
    note_said _ _ c.args.message.now verdict _ _ _ _ _ front (ap verdict_of c.in-Err.is) noted
    (rw c.in-Err.is (bad_line_by job.terms.mode job c.args.spot.now _ front (line_of_no job.terms.form job c.args.spot.now _ front (rw c.in-Err.is at is))))
    (ap (λ (p : Pending g.row.A.Denot). queue_of g.K.Sink p c.args.writer.now) c.make_front-in-Err.ensures.out)
    (c.in_ok-extend_from_slice-in-Filter-mode.ensures.items ∙ ap (λ (p : Pending g.row.A.Denot). p.bytes.items ++ front) c.make_front-in-Err.ensures.notes)
