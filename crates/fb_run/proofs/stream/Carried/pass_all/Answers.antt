use Rattle.std.proofs.Common.{Result, ap, arith, length, refl, rules, subst, sym, ◌≡◌, ◌∙◌}
use Rattle.fb_bytes.specs.declared.stream_fault.StreamFault.TheVariants as stream
use Rattle.fb_run.specs.{Ends.all_outs, Leave.all_ends, Leave.reader_of, Pieces.AreEmpty, Pieces.PassesFront, Pieces.WritesBy, Pieces.carry_of, Puts.queues_of, declared.fault.RunFault.RunFault, declared.tally.Tally.Tally}
use Rattle.fb_run.specs.declared.options.Terms.{Terms}
use Rattle.fb_run.proofs.BareLemmas.{unused_queues}
use Rattle.fb_run.proofs.RunLemmas.{err_is, fails_piece, fails_part, fails_read, fails_short, fails_turns, full_piece, passes_end, sofar_nothing, sofar_piece, sofar_prompt}
use Rattle.fb_run.proofs.StreamLemmas.{cut_short, due_next, flushed, passed_sound}
use Rattle.fb_run.proofs.stream.Carried.pass_all.Goals as goal

pub loop-left-init : goal.loop-left-init
loop-left-init g c =
    let begin : c.terms.result.now.skip ≡ c.args.checker.now.terms.skip = ap (λ (t : Terms). t.skip) c.terms.ensures.value in
    let unused = unused_queues g.K.Sink g.N.Sink g.R.Sink c.args.self.now.output c.args.writer.now c.args.notes.now c.args.rejects.now c.requires.first.0 in
    record {
      room = c.requires.room;
      sofar = sofar_nothing c.args.checker.now (reader_of g.S.Input c.args.reader.now) (all_outs g.K.Sink g.N.Sink g.R.Sink c.args.writer.now c.args.notes.now c.args.rejects.now)
          (carry_of g.K.Sink g.N.Sink g.R.Sink c.args.self.now c.args.writer.now c.args.notes.now c.args.rejects.now) _ c.args.turns
          (record { all = c.new-skip.ensures.all ∙ begin; left = omega (arith, c.new-skip.ensures.left, begin) }) c.terms.ensures.due
          c.requires.ready unused c.requires.first.1 c.requires.first.2;
    }

pub pull_piece-requires-clause-leave : goal.pull_piece-requires-clause-leave
pull_piece-requires-clause-leave g c =
    let sofar = c.loop-left.invariant.sofar in
    c.requires.leave (all_ends g.S.Input g.K.Sink g.N.Sink g.R.Sink c.loop-left.reader c.loop-left.writer c.loop-left.notes c.loop-left.rejects) (sofar_prompt sofar) sofar.asks

pub flush-requires : goal.flush-requires
flush-requires g c = record {
  sound = passed_sound _ _ _ (carry_of g.K.Sink g.N.Sink g.R.Sink c.pass_messages-passed.new.self c.pass_messages-passed.new.writer c.pass_messages-passed.new.notes c.pass_messages-passed.new.rejects) _ c.pass_messages-passed.ensures;
}

pub returns-in_err-flush : goal.returns-in_err-flush
returns-in_err-flush g c =
    let read = c.in-Ok.ensures in
    let reader = reader_of g.S.Input c.pull_piece.new.source in
    let mid = carry_of g.K.Sink g.N.Sink g.R.Sink c.pass_messages-passed.new.self c.pass_messages-passed.new.writer c.pass_messages-passed.new.notes c.pass_messages-passed.new.rejects in
    let queues = queues_of g.K.Sink g.N.Sink g.R.Sink c.flush.new.self c.flush.new.writer c.flush.new.notes c.flush.new.rejects in
    let behind = rw c.as_slice.ensures.value at c.behind-more.ensures.rest in
    rw (err_is _ _ c.from_residual-in_err-flush.ensures.1, c.flush.ensures.counted)
    (fails_piece c.loop-left.invariant.sofar _ _ _ reader c.loop-left-test.true read.ok read.counted (omega (arith, read.failure)) behind (record mid { queues = queues }) _
    (cut_short _ _ _ mid queues _ _ c.pass_messages-passed.ensures c.flush.ensures.puts c.in_err-flush.ensures.so))

pub returns-in_err-passed : goal.returns-in_err-passed
returns-in_err-passed g c =
    let read = c.in-Ok.ensures in
    let reader = reader_of g.S.Input c.pull_piece.new.source in
    let mid = carry_of g.K.Sink g.N.Sink g.R.Sink c.pass_messages-passed.new.self c.pass_messages-passed.new.writer c.pass_messages-passed.new.notes c.pass_messages-passed.new.rejects in
    let queues = queues_of g.K.Sink g.N.Sink g.R.Sink c.flush.new.self c.flush.new.writer c.flush.new.notes c.flush.new.rejects in
    let behind = rw c.as_slice.ensures.value at c.behind-more.ensures.rest in
    rw (err_is _ _ c.from_residual-in_err-passed.ensures.1, c.flush.ensures.counted)
    (fails_piece c.loop-left.invariant.sofar _ _ _ reader c.loop-left-test.true read.ok read.counted (omega (arith, read.failure)) behind (record mid { queues = queues }) _
    (subst (λ (r : Result (Unit {0}) RunFault). WritesBy c.args.checker.now c.behind-more.result.now (carry_of g.K.Sink g.N.Sink g.R.Sink c.loop-left.self c.loop-left.writer c.loop-left.notes c.loop-left.rejects) (record mid { queues = queues }) r) c.in_err-passed.was
    (flushed _ _ _ mid queues _ c.pass_messages-passed.ensures c.flush.ensures.puts c.in_ok-flush.ensures.so (c.in_ok-flush.ensures.written, c.in_ok-flush.ensures.noted, c.in_ok-flush.ensures.kept))))

pub loop-left-preserved : goal.loop-left-preserved
loop-left-preserved g c =
    let read = c.in-Ok.ensures in
    let reader = reader_of g.S.Input c.pull_piece.new.source in
    let mid = carry_of g.K.Sink g.N.Sink g.R.Sink c.pass_messages-passed.new.self c.pass_messages-passed.new.writer c.pass_messages-passed.new.notes c.pass_messages-passed.new.rejects in
    let queues = queues_of g.K.Sink g.N.Sink g.R.Sink c.flush.new.self c.flush.new.writer c.flush.new.notes c.flush.new.rejects in
    let behind = rw c.as_slice.ensures.value at c.behind-more.ensures.rest in
    let before = c.loop-left.invariant in
    let shorter = rw c.as_slice.ensures.value at c.behind-more.ensures.left in
    let due = due_next c.args.checker.now _ c.due.result (search rules) c.due.ensures.due in
    record {
      room = read.room ∙ before.room;
      sofar = sofar_piece before.sofar _ _ _ reader c.loop-left-test.true read.ok read.counted (omega (arith, read.failure)) behind
          (omega (arith, read.room, before.room)) read.fits (search rules) c.behind-more.ensures.all shorter due
          (subst (λ (t : Tally). PassesFront c.args.checker.now c.behind-more.result.now (carry_of g.K.Sink g.N.Sink g.R.Sink c.loop-left.self c.loop-left.writer c.loop-left.notes c.loop-left.rejects) (record mid { tally = t; queues = queues }) × AreEmpty queues) (sym c.flush.ensures.counted)
          (subst (λ (r : Result (Unit {0}) RunFault). WritesBy c.args.checker.now c.behind-more.result.now (carry_of g.K.Sink g.N.Sink g.R.Sink c.loop-left.self c.loop-left.writer c.loop-left.notes c.loop-left.rejects) (record mid { queues = queues }) r) c.in_ok-passed.was
          (flushed _ _ _ mid queues _ c.pass_messages-passed.ensures c.flush.ensures.puts c.in_ok-flush.ensures.so (c.in_ok-flush.ensures.written, c.in_ok-flush.ensures.noted, c.in_ok-flush.ensures.kept))));
    }

pub returns-then-due-eq0 : goal.returns-then-due-eq0
returns-then-due-eq0 g c =
    let read = c.in-Ok.ensures in
    let reader = reader_of g.S.Input c.pull_piece.new.source in
    let mid = carry_of g.K.Sink g.N.Sink g.R.Sink c.pass_messages-passed.new.self c.pass_messages-passed.new.writer c.pass_messages-passed.new.notes c.pass_messages-passed.new.rejects in
    let queues = queues_of g.K.Sink g.N.Sink g.R.Sink c.flush.new.self c.flush.new.writer c.flush.new.notes c.flush.new.rejects in
    let behind = rw c.as_slice.ensures.value at c.behind-more.ensures.rest in
    full_piece c.loop-left.invariant.sofar _ _ _ reader c.loop-left-test.true read.ok read.counted (omega (arith, read.failure)) behind (record mid { tally = c.flush.new.self.counter; queues = queues })
    (c.due.ensures.full (search rules))
    (subst (λ (t : Tally). PassesFront c.args.checker.now c.behind-more.result.now (carry_of g.K.Sink g.N.Sink g.R.Sink c.loop-left.self c.loop-left.writer c.loop-left.notes c.loop-left.rejects) (record mid { tally = t; queues = queues }) × AreEmpty queues) (sym c.flush.ensures.counted)
    (subst (λ (r : Result (Unit {0}) RunFault). WritesBy c.args.checker.now c.behind-more.result.now (carry_of g.K.Sink g.N.Sink g.R.Sink c.loop-left.self c.loop-left.writer c.loop-left.notes c.loop-left.rejects) (record mid { queues = queues }) r) c.in_ok-passed.was
    (flushed _ _ _ mid queues _ c.pass_messages-passed.ensures c.flush.ensures.puts c.in_ok-flush.ensures.so (c.in_ok-flush.ensures.written, c.in_ok-flush.ensures.noted, c.in_ok-flush.ensures.kept))))

pub returns-in-Err : goal.returns-in-Err
returns-in-Err g c =
    let failed = c.in-Err.ensures in
    let reader = reader_of g.S.Input c.pull_piece.new.source in
    fails_read c.loop-left.invariant.sofar reader c.loop-left-test.true failed.err failed.counted (omega (arith, failed.failure))

pub returns : goal.returns
returns g c = fails_turns c.loop-left.invariant.sofar (omega (arith, c.loop-left-test.false))

pub returns-in_err-end-in-Ok-eq0 : goal.returns-in_err-end-in-Ok-eq0
returns-in_err-end-in-Ok-eq0 g c =
    let read = c.in-Ok-eq0.ensures in
    let none : c.in-Ok-eq0.field-0 ≡ 0 = search rules in
    let early = c.in_err-end-in-Ok-eq0.ensures.early in
    let reader = reader_of g.S.Input c.pull_piece.new.source in
    rw (err_is _ _ c.from_residual.ensures.1, early.1)
    (fails_short c.loop-left.invariant.sofar reader c.loop-left-test.true (rw none at read.ok) read.counted (omega (arith, read.failure)) (read.end none) early.0)

pub returns-in_err-finish-in-Ok-eq0 : goal.returns-in_err-finish-in-Ok-eq0
returns-in_err-finish-in-Ok-eq0 g c =
    let read = c.in-Ok-eq0.ensures in
    let none : c.in-Ok-eq0.field-0 ≡ 0 = search rules in
    let reader = reader_of g.S.Input c.pull_piece.new.source in
    let cut = c.in_err-finish-in-Ok-eq0.ensures.truncated c.loop-left.invariant.sofar.ready.fine in
    let is : c.in_err-finish-in-Ok-eq0.field-0.0 ≡ stream.Truncated (length c.loop-left.self.framer.held) = cc cut.3 in
    rw (err_is _ _ c.from_residual-in_err-finish-in-Ok-eq0.ensures.1, is)
    (fails_part c.loop-left.invariant.sofar reader c.loop-left-test.true (rw none at read.ok) read.counted (omega (arith, read.failure)) (read.end none) _ refl cut.1)

pub returns-in-Ok-eq0 : goal.returns-in-Ok-eq0
returns-in-Ok-eq0 g c =
    let read = c.in-Ok-eq0.ensures in
    let none : c.in-Ok-eq0.field-0 ≡ 0 = search rules in
    let reader = reader_of g.S.Input c.pull_piece.new.source in
    passes_end c.loop-left.invariant.sofar reader c.loop-left-test.true (rw none at read.ok) read.counted (omega (arith, read.failure)) (read.end none)
    c.in_ok-end-in-Ok-eq0.ensures.ok c.in_ok-finish-in-Ok-eq0.ensures.ok.2
