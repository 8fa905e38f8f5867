use Rattle.std.proofs.Common.{refl, sym, ◌∙◌}
use Rattle.fb_strict.proofs.{Answered.only_read, Answered.stands, Answered.stands_not, Plainly.one_passed}
use Rattle.fb_strict.proofs.pass.Pass.pass_one.Goals as goal

-- src/pass.rt
pub returns-then-at-table : goal.returns-then-at-table
returns-then-at-table g c ask is =
    let m = c.args.reads.now in
    let there = sym c.slot_at-at.ensures.value ∙ stands c.args.table.at c.slot_at-at.result c.if-at-table.true in
    one_passed c.args.self.now m c.slot_at-at.new.reads c.args.table.at c.args.site c.args.slot c.args.referent c.args.row.now _ _ ask is
    (c.in_ok-answer.ensures m _ _ (only_read m c.slot_at-at.new.reads c.args.table.at _ c.slot_at-at.ensures.counted)) (rw there c.one.ensures)

pub returns-else-at-table : goal.returns-else-at-table
returns-else-at-table g c ask is =
    let m = c.args.reads.now in
    let not-there = sym c.slot_at-at.ensures.value ∙ stands_not c.args.table.at c.slot_at-at.result c.if-at-table.false in
    one_passed c.args.self.now m c.slot_at-at.new.reads c.args.table.at c.args.site c.args.slot c.args.referent c.args.row.now _ _ ask is
    (c.in_ok-answer.ensures m _ _ (only_read m c.slot_at-at.new.reads c.args.table.at _ c.slot_at-at.ensures.counted)) (rw not-there refl)
