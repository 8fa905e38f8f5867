use Rattle.std.proofs.Common.{Ok, ◌≡◌, ◌∙◌, List, ℕ, ◌+◌, ap, refl, rules}
use Rattle.fb_run.specs.{Ends.writer_of, Job.brief_verdict, Line.verdict_line, Puts.Says, Puts.behind, Puts.queue_of, Puts.queues_of, Sums.count_of, Sums.tally_with, Texts.silent}
use Rattle.fb_run.specs.declared.{options.Terms.Terms, tally.Tally.Tally, writing.Pending.Pending}
use Rattle.fb_run.proofs.PutsLemmas.{all_told}
use Rattle.fb_run.proofs.ToldLemmas.{added_so, adds_briefly, good_line_said, message_said, none_said, says_told}
use Rattle.fb_run.proofs.output.Output.add_briefly.Goals.{in-Lines, in-BadLines, in-Filter}
use Rattle.fb_run.proofs.output.Output.add_briefly.Goals as goal

pub returns : goal.returns
returns g c =
    let job = c.args.checker.now in
    let mode = c.terms.result.now.mode in
    let message = c.args.message.now in
    let verdict = brief_verdict (Ok c.in-Ok.report) in
    let old = c.args.self.now in
    let now = c.match-terms.self in
    let IsIt : List ℕ → Type 0 = λ line. line ≡ verdict_line (1 + count_of old.counter) verdict in
    let (says, noted, kept, counted) : Says mode IsIt message verdict (queue_of g.K.Sink old.out c.args.writer.now) (queue_of g.K.Sink now.out c.match-terms.writer) old.notes.bytes.items now.notes.bytes.items
    × (now.notes ≡ old.notes) × (now.rejects ≡ old.rejects) × (now.counter ≡ old.counter) = elim c.match-terms.branch [
      | in-Lines w ↦ rw (w.self-is, w.writer-is) (good_line_said mode IsIt message verdict _ _ _ _ _ refl w.in-Lines.is (_, search rules, w.put.ensures.puts) refl, refl, refl, refl)
      | in-BadLines w ↦ rw (w.self-is, w.writer-is) (none_said mode IsIt message verdict _ _ _ _ _ refl w.in-BadLines.is refl refl, refl, refl, refl)
      | in-Filter w ↦ rw (w.self-is, w.writer-is) (message_said mode IsIt message verdict _ _ _ _ _ refl w.in-Filter.is w.put-in-Filter.ensures.puts refl, refl, refl, refl)
    ] in
    let before = queues_of g.K.Sink g.N.Sink g.R.Sink old c.args.writer.now c.args.notes.now c.args.rejects.now in
    let between = queues_of g.K.Sink g.N.Sink g.R.Sink now c.match-terms.writer c.args.notes.now c.args.rejects.now in
    let after = queues_of g.K.Sink g.N.Sink g.R.Sink c.settle.new.self c.settle.new.writer c.settle.new.notes c.settle.new.rejects in
    let tells = says_told mode IsIt message verdict job.rejects before between after says (ap (λ (p : Pending g.row.A.Denot). behind now.notes.bytes.items p.written (writer_of g.N.Sink c.args.notes.now)) noted)
    (ap (λ (p : Pending g.row.A.Denot). queue_of g.R.Sink p c.args.rejects.now) kept) (all_told silent between after c.settle.ensures.puts) in
    let adds = adds_briefly job _ message verdict before after old.counter c.settle.new.self.counter mode (ap (λ (t : Terms). t.mode) c.terms.ensures.value) c.requires.brief (rw c.in-Ok.is at c.requires.verdict) tells
    (c.settle.ensures.counted ∙ c.count_yes.ensures ∙ ap (λ (t : Tally). tally_with message verdict t) counted) in
    record { told = added_so before after old.counter c.settle.new.self.counter c.settle.result adds c.settle.ensures.so }
