use Rattle.std.proofs.Common.{◌≡◌, ◌∙◌, None, Some, ap, refl, sym}
use Rattle.std.specs.Prelude.{option_map, string_bytes}
use Rattle.fb_run.specs.{Ends.nowhere, Ends.writer_of, Job.job_of, Leave.ends_of}
use Rattle.fb_run.proofs.RunLemmas.{err_is}
use Rattle.fbcheck_serve.specs.{Keeping.maker_of, Inputs.seen_of}
use Rattle.fbcheck_serve.proofs.{AskedLemmas.idle, KeepingLemmas.keeps_none, KeepingLemmas.keeps_some}
use Rattle.fbcheck_serve.proofs.check.check_files.Goals as goal

pub returns-in_err-asked-clause-served : goal.returns-in_err-asked-clause-served
returns-in_err-asked-clause-served g c =
    rw (err_is _ _ c.from_residual.ensures.1) (c.in_err-asked.ensures.none, idle (ends_of g.S.Input g.K.Sink g.N.Sink c.args.reader.now c.args.writer.now c.args.notes.now))

pub returns-in-Err-clause-served : goal.returns-in-Err-clause-served
returns-in-Err-clause-served g c =
    let seen = seen_of g.S.Input g.S.Explains g.K.Sink g.N.Sink c.args.reader.now c.args.writer.now c.args.notes.now in
    (rw c.in-Some.is refl, idle seen.ends)

pub returns-in-None-clause-served : goal.returns-in-None-clause-served
returns-in-None-clause-served g c =
    let none : option_map string_bytes c.args.settings.now.rejects ≡ None = ap (λ o. option_map string_bytes o) c.in-None.is in
    let job = job_of c.in_ok-asked.asked.schema c.in_ok-asked.asked.options in
    keeps_none (maker_of g.F.Makes g.F.Made.Sink c.args.files.now) c.args.settings.now _ none (job, c.in_ok-asked.ensures.job, c.pass_asked-what.ensures.served)

pub returns-clause-served : goal.returns-clause-served
returns-clause-served g c =
    let some = ap (λ o. option_map string_bytes o) c.in-Some.is ∙ ap (λ t. Some t) (sym c.as_str.ensures.value) in
    let job = job_of c.in_ok-asked.asked.schema c.in_ok-asked.asked.options in
    keeps_some (maker_of g.F.Makes g.F.Made.Sink c.args.files.now) c.args.settings.now _ c.as_str.result.now c.in-Ok.file c.pass_asked-what-in-Some.new.rejects some c.in-Ok.ensures.made
    (job, c.in_ok-asked.ensures.job, c.pass_asked-what-in-Some.ensures.served)

pub pass_asked-what-requires-clause-leave : goal.pass_asked-what-requires-clause-leave
pass_asked-what-requires-clause-leave g c now prompt unended =
    c.requires.leave now (job_of c.in_ok-asked.asked.schema c.in_ok-asked.asked.options, c.in_ok-asked.ensures.job, nowhere, now.outs.rejects, prompt) unended

pub pass_asked-what-requires-in-Some-clause-leave : goal.pass_asked-what-requires-in-Some-clause-leave
pass_asked-what-requires-in-Some-clause-leave g c now prompt unended =
    c.requires.leave now (job_of c.in_ok-asked.asked.schema c.in_ok-asked.asked.options, c.in_ok-asked.ensures.job, writer_of g.F.Made.Sink c.in-Ok.file, now.outs.rejects, prompt) unended

pub pass_asked-what-requires-clause-files : goal.pass_asked-what-requires-clause-files
pass_asked-what-requires-clause-files g c =
    c.requires.files (job_of c.in_ok-asked.asked.schema c.in_ok-asked.asked.options) nowhere c.in_ok-asked.ensures.job

pub pass_asked-what-requires-in-Some-clause-files : goal.pass_asked-what-requires-in-Some-clause-files
pass_asked-what-requires-in-Some-clause-files g c =
    c.requires.files (job_of c.in_ok-asked.asked.schema c.in_ok-asked.asked.options) (writer_of g.F.Made.Sink c.in-Ok.file) c.in_ok-asked.ensures.job
