use Rattle.std.proofs.Common.{sym, ◌∙◌, arith}
use Rattle.fb_strict.specs.Demanded.{demanded}
use Rattle.fb_strict.proofs.Queues.{own_none, own_more, own_same, own_all}
use Rattle.fb_strict.proofs.marking.Marking.mark_own.Goals as goal
use Rattle.fb_strict.proofs.marking.Marking.mark_own.Goals.{then-has_own+in_ok-mark, else-has_own}

-- src/marking.rt
pub loop-object-init : goal.loop-object-init
loop-object-init g c = own_none (demanded c.args.demands c.args.holdings.now) c.args.schema.now c.args.self.now.marks.items c.args.self.now.queue.items c.requires

-- src/marking.rt
pub loop-object-preserved : goal.loop-object-preserved
loop-object-preserved g c =
    let D = (demanded c.args.demands c.args.holdings.now) in
    let S = c.args.schema.now in
    let n = c.loop-object.object in
    let marks = c.loop-object.self.marks.items in
    let queue = c.loop-object.self.queue.items in
    elim c.if-has_own.branch [
      | then-has_own+in_ok-mark w ↦ rw (w.self-is) (own_more D S n marks queue c.loop-object.invariant (sym c.has_own.ensures ∙ w.if-has_own.true)
          w.mark.new.self.marks.items w.mark.new.self.queue.items w.in_ok-mark.ensures)
      | else-has_own w ↦ rw (w.self-is) (own_same D S n marks queue c.loop-object.invariant (sym c.has_own.ensures ∙ w.if-has_own.false))
    ]

-- src/marking.rt
pub returns : goal.returns
returns g c =
    own_all (demanded c.args.demands c.args.holdings.now) c.args.schema.now c.loop-object.object c.loop-object.self.marks.items c.loop-object.self.queue.items c.loop-object.invariant
    (omega (arith, c.loop-object-test.false, c.object_count-object-end.ensures))
