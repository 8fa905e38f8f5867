use Rattle.std.proofs.Common.{ap, ◌∙◌}
use Rattle.std.specs.Prelude.{◌==◌, ◌||◌}
use Rattle.fb_strict.proofs.Answered.{slot_tested}
use Rattle.fb_strict.proofs.pass.Pass.pass_slot.Goals as goal

-- src/pass.rt
pub returns : goal.returns
returns g c =
    let same = ap (λ n. n == 0 || c.args.live) c.u16_at-place.ensures.number in
    c.answer.ensures c.args.reads.now _ 1 (slot_tested c.args.reads.now c.u16_at-place.new.self c.args.at _ c.test_slot-failed.result c.u16_at-place.ensures.counted (λ h. c.test_slot-failed.ensures.known (same ∙ h)) (λ h. c.test_slot-failed.ensures.unknown (same ∙ h)))
