use Rattle.std.proofs.Common.{ap, arith, rules, ◌≡◌, ◌∙◌, ◌≤◌, ◌+◌, ◌<◌, length}
use Rattle.std.proofs.KnownBytes.{Keeps-refl}
use Rattle.fb_run.specs.{Leave.ends_of, Leave.reader_of, declared.options.Terms.Terms}
use Rattle.fb_run.proofs.WholeLemmas.{gathered_more, gathered_nothing, gathered_within, long_fails, memory_fails, read_fails, short_fails, spent_fails, whole_read}
use Rattle.fb_run.proofs.RunLemmas.{err_is}
use Rattle.fb_run.proofs.reading.read_whole.Goals as goal

pub loop-left-init : goal.loop-left-init
loop-left-init g c =
    let begin : c.terms-2.result.now.skip ≡ c.args.checker.now.terms.skip = ap (λ (t : Terms). t.skip) c.terms-2.ensures.value in
    record {
      room = c.requires.room;
      gathered = gathered_nothing c.args.checker.now (reader_of g.S.Input c.args.source.now) _ _ c.args.turns (search rules)
          (record { all = c.new-skip.ensures.all ∙ begin; left = omega (arith, c.new-skip.ensures.left, begin) });
    }

pub pull_piece-requires-clause-leave : goal.pull_piece-requires-clause-leave
pull_piece-requires-clause-leave g c =
    let gathered = c.loop-left.invariant.gathered in
    c.requires.leave (ends_of g.S.Input g.K.Sink g.N.Sink c.loop-left.source c.args.writer.now c.args.notes.now)
    (gathered.bytes, gathered.read, gathered_within gathered, (Keeps-refl _, Keeps-refl _, tt)) gathered.asks

pub returns-then-more-limit-clause-reads : goal.returns-then-more-limit-clause-reads
returns-then-more-limit-clause-reads g c =
    let read = c.in-Ok.ensures in
    let behind = rw c.as_slice.ensures.value at c.behind-more.ensures.rest in
    let over : c.args.checker.now.terms.max_bytes < length c.loop-left.whole.items + length c.behind-more.result.now = search rules in
    long_fails c.loop-left.invariant.gathered _ _ _ (reader_of g.S.Input c.pull_piece.new.source) read.ok (omega (arith, read.failure)) behind _ (ap (λ (t : Terms). t.max_bytes) c.terms.ensures.value) over

pub returns-in_default-clause-reads : goal.returns-in_default-clause-reads
returns-in_default-clause-reads g c =
    let read = c.in-Ok.ensures in
    let behind = rw c.as_slice.ensures.value at c.behind-more.ensures.rest in
    let under : length c.loop-left.whole.items + length c.behind-more.result.now ≤ c.args.checker.now.terms.max_bytes = search rules in
    memory_fails c.loop-left.invariant.gathered _ _ _ (reader_of g.S.Input c.pull_piece.new.source) read.ok (omega (arith, read.failure)) behind under

pub returns-in-Err-clause-reads : goal.returns-in-Err-clause-reads
returns-in-Err-clause-reads g c =
    read_fails c.loop-left.invariant.gathered (reader_of g.S.Input c.pull_piece.new.source) c.in-Err.ensures.err (omega (arith, c.in-Err.ensures.failure))

pub returns-clause-reads : goal.returns-clause-reads
returns-clause-reads g c =
    spent_fails c.loop-left.invariant.gathered (omega (arith, c.loop-left-test.false))

pub loop-left-preserved : goal.loop-left-preserved
loop-left-preserved g c =
    let read = c.in-Ok.ensures in
    let behind = rw c.as_slice.ensures.value at c.behind-more.ensures.rest in
    let under : length c.loop-left.whole.items + length c.behind-more.result.now ≤ c.args.checker.now.terms.max_bytes = search rules in
    record {
      room = read.room ∙ c.loop-left.invariant.room;
      gathered = gathered_more c.loop-left.invariant.gathered _ _ _ (reader_of g.S.Input c.pull_piece.new.source) read.ok (omega (arith, read.failure)) behind
          (search rules) under c.loop-left-test.true read.counted (search rules) c.behind-more.ensures.all (rw c.as_slice.ensures.value at c.behind-more.ensures.left);
    }

pub returns-in_err-end-in-Ok-eq0-clause-reads : goal.returns-in_err-end-in-Ok-eq0-clause-reads
returns-in_err-end-in-Ok-eq0-clause-reads g c =
    let read = c.in-Ok-eq0.ensures in
    let none : c.in-Ok-eq0.field-0 ≡ 0 = search rules in
    let early = c.in_err-end-in-Ok-eq0.ensures.early in
    rw (err_is _ _ c.from_residual.ensures.1, early.1)
    (short_fails c.loop-left.invariant.gathered (reader_of g.S.Input c.pull_piece.new.source) (rw none at read.ok) (omega (arith, read.failure)) (read.end none) early.0)

pub returns-in-Ok-eq0-clause-reads : goal.returns-in-Ok-eq0-clause-reads
returns-in-Ok-eq0-clause-reads g c =
    let read = c.in-Ok-eq0.ensures in
    let none : c.in-Ok-eq0.field-0 ≡ 0 = search rules in
    whole_read c.loop-left.invariant.gathered (reader_of g.S.Input c.pull_piece.new.source) (rw none at read.ok) (omega (arith, read.failure)) (read.end none) c.in_ok-end-in-Ok-eq0.ensures.ok
