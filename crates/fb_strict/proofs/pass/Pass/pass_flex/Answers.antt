use Rattle.std.proofs.Common.{◌≡◌, ◌+◌, ap, ◌∙◌, arith}
use Rattle.fb_rules.specs.{Cost.slot_reads, Places.field_place, Order.after}
use Rattle.fb_strict.specs.InOrder.{flex_failure}
use Rattle.fb_strict.proofs.Answered.{tested_after, flex_tested, bytes_row, always}
use Rattle.fb_strict.proofs.pass.Pass.pass_flex.Goals as goal

-- src/pass.rt
pub returns : goal.returns
returns g c row =
    let m = c.args.reads.now in
    let mid = c.slot_at-at.new.reads in
    let t = c.args.table.at in
    let n = slot_reads m.bytes t c.args.slot in
    let place = field_place m.bytes t c.args.slot in
    let tested = flex_tested mid c.slot_at-at.result c.test_flex-failed.result place (c.test_flex-failed.ensures mid.count ∙ ap (λ o. after mid.count (flex_failure o)) c.slot_at-at.ensures.value) in
    let none : n + 0 ≡ n = omega arith in
    let asked = c.answer.ensures m (after n (flex_failure place)) (n + 0) (tested_after m mid mid c.slot_at-at.result _ _ 0 c.test_flex-failed.result c.slot_at-at.ensures.counted tested) in
    record { asked = rw none at asked; row = always c.answer.result (bytes_row c.args.self.now m.bytes _ place _ row) }
