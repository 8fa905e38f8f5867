use Rattle.std.proofs.Common.{◌+◌, refl, ap, arith}
use Rattle.std.proofs.lemmas.List.{get_or-set_same}
use Rattle.fb_verify.specs.{Stack.blank, Units.PassesLeaf, Units.LeadsToTable}
use Rattle.fb_verify.proofs.{Frames.row_types_near, Walking.leaf_falls, Walking.leaf_passed, Walking.word_stops, Turns.at_table, Turns.child_opened, Turns.child_stops, Turns.child_work}
use Rattle.fb_verify.proofs.stack.Walk.pass_one.Goals.{In-Ok-Some}
use Rattle.fb_verify.proofs.stack.Walk.pass_one.Goals as goal

pub returns-in-Ok-None : goal.returns-in-Ok-None
returns-in-Ok-None g c =
    let e : PassesLeaf c.args.self.now c.args.loan.now c.pass_element.new.loan c.args.top.now.row = rw (c.in-Ok-None.is, c.in-Ok-None.field-0-is) at c.pass_element.ensures in
    let h = c.requires.1.0 in
    let more = c.requires.1.1.0 in
    rw e.counted (record {
      same = refl;
      walking = leaf_passed h c.advance.new.self _ c.advance.ensures more e.ok refl e.leaf (rw e.counted at e.reads);
      falls = leaf_falls h c.advance.new.self _ c.advance.ensures more refl;
      grows = omega arith;
      bytes = refl;
    })

pub returns-in-Err : goal.returns-in-Err
returns-in-Err g c =
    let e = c.in-Err.ensures in
    (e.bytes, word_stops c.requires.1.0 _ c.advance.new.self c.advance.ensures c.requires.1.1.0 (rw c.site-site.ensures at e.err))

-- the word leads to a table
leads : (g : _) (c : In-Ok-Some g) → LeadsToTable c.args.self.now c.args.loan.now c.pass_element.new.loan c.args.top.now.row c.in-Ok-Some.child
leads g c = rw (c.in-Ok-Some.is, c.in-Ok-Some.field-0-is) at c.pass_element.ensures

pub returns-in-Ok : goal.returns-in-Ok
returns-in-Ok g c =
    let e = leads g (goal.at.returns-in-Ok g c).In-Ok-Some in
    let t = rw e.counted at c.in-Ok.ensures in
    let o = at_table c.requires.1.0 c.requires.1.1.0 e in
    let mi = ap (λ n. n + 1) c.requires.0 in
    let n = c.args.waiting + 1 in
    let row = c.advance.new.self in
    let first = get_or-set_same c.args.room.now 0 c.opened.result blank (omega (arith, t.allowed.deep, c.requires.1.1.1.0)) in
    rw (first, c.opened.ensures, t.opened, t.counted) (record {
      same = refl;
      walking = child_opened o n mi row c.advance.ensures c.in-Ok.table t.table t.ok t.allowed.fewer t.allowed.deep t.allowed.low t.head (rw t.counted at t.reads);
      falls = omega (arith, child_work o n mi row c.advance.ensures c.in-Ok.table t.table t.ok t.allowed.fewer t.allowed.deep t.allowed.low, o.paid);
      grows = omega arith;
      bytes = refl;
    })

pub returns-in-Err-open_table : goal.returns-in-Err-open_table
returns-in-Err-open_table g c =
    let e = leads g (goal.at.returns-in-Err-open_table g c).In-Ok-Some in
    let t = rw e.counted at c.in-Err-open_table.ensures in
    let o = at_table c.requires.1.0 c.requires.1.1.0 e in
    (t.bytes, child_stops o (c.args.waiting + 1) (ap (λ n. n + 1) c.requires.0) c.advance.new.self c.advance.ensures c.site-site.result c.site-site.ensures _ t.err)

pub advance-requires-clause-types : goal.advance-requires-clause-types
advance-requires-clause-types g c =
    let w = c.args.self.now in
    row_types_near w.checks c.args.loan.now.bytes w.schema.now c.args.top.now.row c.requires.1.1.0 ((c.requires.1.0).frame).row
