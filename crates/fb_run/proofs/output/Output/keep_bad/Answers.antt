use Rattle.std.proofs.Common.{◌∙◌, List, ap, subst, sym, true≢false, ℕ}
use Rattle.fb_run.specs.{Ends.writer_of, Puts.PutsAll, Puts.Queue, Puts.behind, Puts.queue_of, Puts.queues_of, Texts.silent}
use Rattle.fb_run.proofs.PutsLemmas.{cut_told, kept_told, passed_told}
use Rattle.fb_run.proofs.output.Output.keep_bad.Goals as goal

pub returns-in-Ok-clause-puts : goal.returns-in-Ok-clause-puts
returns-in-Ok-clause-puts g c =
    let old = c.args.self.now.rejects in
    let writer = writer_of g.R.Sink c.args.rejects.now in
    kept_told c.args.message.now (queues_of g.K.Sink g.N.Sink g.R.Sink c.args.self.now c.args.writer.now c.args.notes.now c.args.rejects.now)
    (queues_of g.K.Sink g.N.Sink g.R.Sink c.settle.new.self c.settle.new.writer c.settle.new.notes c.settle.new.rejects) (behind c.hold.new.bytes.items old.written writer)
    (ap (λ (l : List ℕ). behind l old.written writer) c.in-Ok.ensures.ok) c.settle.ensures.puts

pub returns-in_err-flush-clause-puts : goal.returns-in_err-flush-clause-puts
returns-in_err-flush-clause-puts g c =
    let before = queues_of g.K.Sink g.N.Sink g.R.Sink c.args.self.now c.args.writer.now c.args.notes.now c.args.rejects.now in
    let after = queues_of g.K.Sink g.N.Sink g.R.Sink c.flush.new.self c.flush.new.writer c.flush.new.notes c.flush.new.rejects in
    let same = ap (λ (l : List ℕ). behind l c.args.self.now.rejects.written (writer_of g.R.Sink c.args.rejects.now)) c.in_default.ensures.err in
    cut_told c.args.message.now before after c.in_err-flush.field-0.0 c.in_err-flush.ensures.so (subst (λ (q : Queue). PutsAll silent (record before { rejects = q }) after) same c.flush.ensures.puts)

pub returns-clause-puts : goal.returns-clause-puts
returns-clause-puts g c =
    let before = queues_of g.K.Sink g.N.Sink g.R.Sink c.args.self.now c.args.writer.now c.args.notes.now c.args.rejects.now in
    let mid = queues_of g.K.Sink g.N.Sink g.R.Sink c.flush.new.self c.flush.new.writer c.flush.new.notes c.flush.new.rejects in
    let same = ap (λ (l : List ℕ). behind l c.args.self.now.rejects.written (writer_of g.R.Sink c.args.rejects.now)) c.in_default.ensures.err in
    passed_told c.args.message.now before
    (queues_of g.K.Sink g.N.Sink g.R.Sink c.flush-2.new.self c.flush-2.new.writer c.flush-2.new.notes c.flush-2.new.rejects) mid (queue_of g.R.Sink c.put.new.self c.put.new.sink)
    (subst (λ (q : Queue). PutsAll silent (record before { rejects = q }) mid) same c.flush.ensures.puts) c.put.ensures.puts c.flush-2.ensures.puts

pub flush-requires-2 : goal.flush-requires-2
flush-requires-2 g c =
    let fine = c.in_ok-flush.ensures.so in
    record {
      sound = record {
        noted = λ cut. absurd (true≢false (sym cut ∙ fine.1));
        rejected = λ cut. ((fine.0, c.in_ok-flush.ensures.written), (fine.1, c.in_ok-flush.ensures.noted));
      };
    }
