use Rattle.std.proofs.Common.{[], List, subst, sym, ℕ}
use Rattle.fb_run.specs.{Ends.writer_of, Puts.PutsAs, Puts.behind}
use Rattle.std.proofs.Common.{Err, Ok, OnErr, Result}
use Rattle.fb_run.proofs.PutsLemmas.{puts_then}
use Rattle.fb_run.proofs.writing.Pending.write_through.Goals as goal

err_of : {A E P : Type 0} (r : Result A E) → P → OnErr r P
err_of (Ok done) holds = tt
err_of (Err refused) holds = holds

pub returns-then-is_err-clause-err : goal.returns-then-is_err-clause-err
returns-then-is_err-clause-err g c =
    let old = c.args.self.now in
    let flushed = c.flush.new.self in
    let last = c.write_all-self in
    let before = writer_of g.K.Sink c.args.sink.now in
    let between = writer_of g.K.Sink c.flush.new.sink in
    let after = writer_of g.K.Sink last.new.sink in
    err_of c.args.added (puts_then [] c.args.text.now (behind old.bytes.items old.written before) (behind flushed.bytes.items flushed.written between) (behind flushed.bytes.items last.result after)
    c.flush.ensures.puts
    (subst (λ (l : List ℕ). PutsAs flushed.written.failed last.result.failed c.args.text.now (behind l flushed.written between) (behind l last.result after)) (sym c.flush.ensures.empty) last.ensures.puts))
