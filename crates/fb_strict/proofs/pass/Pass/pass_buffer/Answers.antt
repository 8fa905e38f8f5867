use Rattle.std.proofs.Common.{None, Some, refl, sym, ap, ◌∙◌}
use Rattle.fb_bytes.specs.Word.{Lent}
use Rattle.fb_rules.specs.declared.offset_row.Row.{Row}
use Rattle.fb_strict.proofs.Answered.{only_read, stands, stands_not, tested_after, none_tested, ok_for, err_for, err_is}
use Rattle.fb_strict.proofs.pass.Pass.pass_buffer.Goals as goal

-- src/pass.rt
pub returns-then-at-table : goal.returns-then-at-table
returns-then-at-table g c row =
    let m = c.args.reads.now in
    let mid = c.slot_at-at.new.reads in
    let t = c.args.table.at in
    let value = sym c.slot_at-at.ensures.value ∙ stands_not t c.slot_at-at.result c.if-at-table.true in
    let asked = c.in_ok-answer.ensures m None _ (tested_after m mid mid t None _ 0 None c.slot_at-at.ensures.counted (none_tested mid t)) in
    record { passed = record { asked = rw value (ok_for _ _ _ _ _ _ _ _ _ asked); row = rw value refl }; inner = rw value refl }

pub returns-in_err-answer : goal.returns-in_err-answer
returns-in_err-answer g c row =
    let m = c.args.reads.now in
    let mid = c.slot_at-at.new.reads in
    let t = c.args.table.at in
    let value = sym c.slot_at-at.ensures.value ∙ stands_not t c.slot_at-at.result c.if-at-table.true in
    let asked = c.in_err-answer.ensures m None _ (tested_after m mid mid t None _ 0 None c.slot_at-at.ensures.counted (none_tested mid t)) in
    rw (err_is c.from_residual.result c.in_err-answer.field-0.0 c.from_residual.ensures.1) (record { passed = record { asked = rw value (err_for _ _ _ _ _ _ _ _ asked); row = tt }; inner = tt })

pub read_row-bytes-requires-clause-stands : goal.read_row-bytes-requires-clause-stands
read_row-bytes-requires-clause-stands g c =
    rw (ap (λ (x : Lent). x.bytes) c.slot_at-at.ensures.counted) (c.requires.taskable.1 _ (sym c.slot_at-at.ensures.value ∙ stands c.args.table.at c.slot_at-at.result c.if-at-table.false)).vector

pub returns : goal.returns
returns g c row =
    let m = c.args.reads.now in
    let mid = c.slot_at-at.new.reads in
    let t = c.args.table.at in
    let value = sym c.slot_at-at.ensures.value ∙ stands t c.slot_at-at.result c.if-at-table.false in
    let asked = c.in_ok-answer-2.ensures m None _ (tested_after m mid c.read_row-bytes.new.reads t None _ 2 None c.slot_at-at.ensures.counted (only_read mid c.read_row-bytes.new.reads t 2 c.read_row-bytes.ensures.counted)) in
    let read = rw (ap (λ (x : Lent). x.bytes) c.slot_at-at.ensures.counted) at c.read_row-bytes.ensures.row in
    let at = ap (λ (r : Row). r.place) read in
    let size = c.from.ensures ∙ ap (λ (r : Row). r.left) read in
    record { passed = record { asked = rw value (ok_for _ _ _ _ _ _ _ _ _ asked); row = rw value refl }; inner = rw value (λ i. Some (record { at = at i; size = size i; root = c.args.root })) }

pub returns-in_err-answer-2 : goal.returns-in_err-answer-2
returns-in_err-answer-2 g c row =
    let m = c.args.reads.now in
    let mid = c.slot_at-at.new.reads in
    let t = c.args.table.at in
    let value = sym c.slot_at-at.ensures.value ∙ stands t c.slot_at-at.result c.if-at-table.false in
    let asked = c.in_err-answer-2.ensures m None _ (tested_after m mid c.read_row-bytes.new.reads t None _ 2 None c.slot_at-at.ensures.counted (only_read mid c.read_row-bytes.new.reads t 2 c.read_row-bytes.ensures.counted)) in
    rw (err_is c.from_residual-in_err-answer-2.result c.in_err-answer-2.field-0.0 c.from_residual-in_err-answer-2.ensures.1) (record { passed = record { asked = rw value (err_for _ _ _ _ _ _ _ _ asked); row = tt }; inner = tt })
