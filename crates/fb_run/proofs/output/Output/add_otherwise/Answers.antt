use Rattle.std.proofs.Common.{◌∙◌, ap, subst, sym}
use Rattle.fb_run.specs.{Ends.writer_of, Job.IsVerdict, Job.Verdict, Job.buffer_in, Job.verdict_of, Puts.behind, Puts.queue_of, Puts.queues_of, Sums.tally_with}
use Rattle.fb_run.specs.declared.{tally.Tally.Tally, writing.Pending.Pending, writing.Written.Written}
use Rattle.fb_run.proofs.ToldLemmas.{added_so, adds_told, says_told}
use Rattle.fb_run.proofs.output.Output.add_otherwise.Goals as goal

pub returns-clause-told : goal.returns-clause-told
returns-clause-told g c =
    let job = c.args.checker.now in
    let message = c.args.message.now in
    let verdict = verdict_of c.told-verdict.result.0 in
    let is : IsVerdict job (buffer_in job message) verdict = subst (λ (v : Verdict). IsVerdict job (buffer_in job message) v) (sym c.told-verdict.ensures.verdict) c.in_ok-verdict.ensures.verdict in
    let before = queues_of g.K.Sink g.N.Sink g.R.Sink c.args.self.now c.args.writer.now c.args.notes.now c.args.rejects.now in
    let between = queues_of g.K.Sink g.N.Sink g.R.Sink c.say.new.self c.say.new.writer c.args.notes.now c.args.rejects.now in
    let after = queues_of g.K.Sink g.N.Sink g.R.Sink c.keep.new.self c.keep.new.writer c.keep.new.notes c.keep.new.rejects in
    let says = rw (c.spot-spot.ensures, c.terms.ensures.value) at c.in_ok-say.ensures.ok in
    let noted = ap (λ (written : Written). behind c.say.new.self.notes.bytes.items written (writer_of g.N.Sink c.args.notes.now)) c.say.ensures.noted in
    let same = ap (λ (p : Pending g.row.A.Denot). queue_of g.R.Sink p c.args.rejects.now) c.say.ensures.rejects in
    let puts = rw c.rejects.ensures at c.keep.ensures.puts in
    let counted = c.keep.ensures.counted ∙ c.count.ensures ∙ ap (λ (t : Tally). tally_with message verdict t) c.say.ensures.counted in
    added_so before after c.args.self.now.counter c.keep.new.self.counter c.keep.result
    (adds_told job _ message verdict before after c.args.self.now.counter c.keep.new.self.counter is (says_told _ _ message verdict _ before between after says noted same puts) counted) c.keep.ensures.so
