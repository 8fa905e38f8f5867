use Rattle.std.proofs.Common.{None, refl, sym, ap, ◌∙◌}
use Rattle.fb_bytes.specs.Word.{Lent}
use Rattle.fb_strict.proofs.{Plainly.each_passed, Answered.only_read, Answered.stands, Answered.stands_not, Answered.tested_after, Answered.none_tested, Answered.always}
use Rattle.fb_strict.proofs.pass.Pass.pass_each.Goals as goal

-- src/pass.rt
pub returns-then-at-table : goal.returns-then-at-table
returns-then-at-table g c ask is =
    let m = c.args.reads.now in
    let mid = c.slot_at-at.new.reads in
    let t = c.args.table.at in
    let value = sym c.slot_at-at.ensures.value ∙ stands_not t c.slot_at-at.result c.if-at-table.true in
    each_passed c.args.self.now m mid t c.args.site c.args.slot c.args.referent c.args.row.now _ _ ask is
    (rw value (c.answer.ensures m None _ (tested_after m mid mid t None _ 0 None c.slot_at-at.ensures.counted (none_tested mid t)))) (always c.answer.result (rw value refl))

pub read_row-words-requires-clause-stands : goal.read_row-words-requires-clause-stands
read_row-words-requires-clause-stands g c =
    rw (ap (λ (x : Lent). x.bytes) c.slot_at-at.ensures.counted) (c.requires.stands _ (sym c.slot_at-at.ensures.value ∙ stands c.args.table.at c.slot_at-at.result c.if-at-table.false))

pub returns : goal.returns
returns g c ask is =
    let m = c.args.reads.now in
    let mid = c.slot_at-at.new.reads in
    let t = c.args.table.at in
    let value = sym c.slot_at-at.ensures.value ∙ stands t c.slot_at-at.result c.if-at-table.false in
    each_passed c.args.self.now m c.read_row-words.new.reads t c.args.site c.args.slot c.args.referent c.args.row.now _ _ ask is
    (rw value (c.in_ok-answer.ensures m None _ (tested_after m mid c.read_row-words.new.reads t None _ 2 None c.slot_at-at.ensures.counted (only_read mid c.read_row-words.new.reads t 2 c.read_row-words.ensures.counted))))
    (rw value (rw (ap (λ (x : Lent). x.bytes) c.slot_at-at.ensures.counted) at c.read_row-words.ensures.row))
