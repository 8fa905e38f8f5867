use Rattle.std.proofs.Common.{refl, arith}
use Rattle.fb_rules.specs.{Cost.head_reads, Order.head_failure, Plain.IsTested}
use Rattle.fb_verify.specs.Flat.{PassesFlat}
use Rattle.fb_rules.proofs.{Few.head_few, Heads.first_fails, Heads.head_reads_parts, Heads.vtable_tested}
use Rattle.fb_verify.proofs.{Alike.alike_passes, Flats.flat_holds, Flats.flat_many, Flats.flat_between, Flats.flat_room, Flats.flat_came, Flats.flat_kept, Flats.head_flat, Flats.reason_of}
use Rattle.fb_verify.proofs.flat.pass_alike.Goals.{After-test_vtable-failed, After-pass_steps}
use Rattle.fb_verify.proofs.flat.pass_alike.Goals as goal

pub returns-in-Err-clause-passes : goal.returns-in-Err-clause-passes
returns-in-Err-clause-passes g c =
    let f = rw c.in-Err.is at c.test_first_word.ensures in
    head_flat (rw (c.requires.0).same at (first_fails c.args.checks c.args.reads.now.bytes c.args.at.now c.args.reads.now.count _ f.told)) f.bytes

pub returns-then-tells_of-clause-passes : goal.returns-then-tells_of-clause-passes
returns-then-tells_of-clause-passes g c =
    let r = c.requires.0 in
    let w = (g.going).walk in
    let like = c.tells_of.ensures.like c.if-tells_of.true in
    let kept = rw (r.same, r.its) at ((c.requires.1).holds (omega (arith, like.below))) in
    let small = rw r.its at ((c.requires.1).small (c.tells_of.ensures.small c.if-tells_of.true)) in
    alike_passes w c.args.reads.now c.test_first_word.new.reads c.count_again.new.self (g.going).under c.args.object c.args.at.now c.in-Ok.vtable c.args.passed.now r.opens
    (rw (r.same, c.in-Ok.is) at c.test_first_word.ensures) (rw r.its at r.room) small kept like c.count_again.ensures c.args.next.now c.args.at.now

-- the head was tested
tested : (g : _) (c : After-test_vtable-failed g) → IsTested c.args.reads.now c.test_vtable-failed.new.reads c.test_vtable-failed.new.at (head_failure (g.going).walk.checks c.args.reads.now.bytes c.args.at.now) (head_reads (g.going).walk.checks) c.test_vtable-failed.result
tested g c =
    let f = rw c.in-Ok.is at c.test_first_word.ensures in
    rw (c.requires.0).same at (vtable_tested c.args.checks c.args.reads.now c.test_first_word.new.reads c.test_vtable-failed.new.reads c.args.at.now c.test_vtable-failed.new.at c.test_vtable-failed.result f.holds f.counted f.bytes f.base c.test_vtable-failed.ensures.tested)

pub returns-in-Some-clause-passes : goal.returns-in-Some-clause-passes
returns-in-Some-clause-passes g c =
    let e = tested g (goal.at.returns-in-Some-clause-passes g c).After-test_vtable-failed in
    head_flat (rw c.in-Some.is at e.told) e.bytes

pub pass_steps-requires : goal.pass_steps-requires
pass_steps-requires g c =
    let e = tested g (goal.at.pass_steps-requires g c).After-test_vtable-failed in
    let none = c.in_default.is in
    let r = c.requires.0 in
    let head = rw (c.test_first_word.ensures.bytes, r.same) at (c.test_vtable-failed.ensures.head none) in
    (flat_between r e none _ head, (flat_room r e none c.test_vtable-failed.new.head, (r.same, (r.schema, (refl, (refl, (r.its, r.few)))))))

-- its fields were passed, or one fails
came : (g : _) (c : After-pass_steps g)
    → PassesFlat (g.going).walk c.args.reads.now c.pass_steps.new.reads (g.going).under c.args.object c.args.at.now c.pass_steps.new.next c.pass_steps.new.at (reason_of c.pass_steps.result)
came g c = flat_came c.requires.0 (tested g (goal.at.After-pass_steps g c).After-test_vtable-failed) c.in_default.is c.test_vtable-failed.new.head c.pass_steps.result c.pass_steps.ensures

pub returns-in-Ok-pass_steps-clause-passes : goal.returns-in-Ok-pass_steps-clause-passes
returns-in-Ok-pass_steps-clause-passes g c = rw c.in-Ok-pass_steps.is at (came g (goal.at.returns-in-Ok-pass_steps-clause-passes g c).After-pass_steps)

pub returns-in-Ok-pass_steps-clause-kept : goal.returns-in-Ok-pass_steps-clause-kept
returns-in-Ok-pass_steps-clause-kept g c none =
    let e = tested g (goal.at.returns-in-Ok-pass_steps-clause-kept g c).After-test_vtable-failed in
    let r = c.requires.0 in
    let head = c.test_vtable-failed.new.head in
    let counted = e.counted c.in_default.is in
    let kept = rw e.bytes at (flat_kept r.plain c.in-Ok-pass_steps.field-0 (rw c.in-Ok-pass_steps.is at c.pass_steps.ensures)) in
    let first = rw c.in-Ok.is at c.test_first_word.ensures in
    let many = flat_many r e c.in_default.is head in
    let few = head_few (g.going).walk.checks in
    let end = c.count.ensures.all (omega (arith, kept.2, counted, few, many, r.short)) in
    let begun = c.count-begun.ensures.all (omega (arith, first.counted, r.short)) in
    record {
      small = (c.requires.1).small;
      holds = λ some. rw r.same (record {
        head = flat_holds r e c.in_default.is head;
        vtable = first.value;
        hold = rw r.its kept.0;
        reads = rw r.its (omega (arith, end, begun, kept.1, counted, first.counted, head_reads_parts (g.going).walk.checks));
        few = omega (arith, end, begun, kept.2, counted, first.counted, few, many);
      });
    }

pub returns-in-Err-pass_steps-clause-passes : goal.returns-in-Err-pass_steps-clause-passes
returns-in-Err-pass_steps-clause-passes g c = rw c.in-Err-pass_steps.is at (came g (goal.at.returns-in-Err-pass_steps-clause-passes g c).After-pass_steps)
