use Rattle.std.proofs.Common.{◌∙◌, ◌++◌, List, ap, ℕ}
use Rattle.fbcheck_texts.proofs.{HintLemmas.cut, HintLemmas.ended, hint.Draft.ended.Goals.then-len-lt-FULL, hint.Draft.ended.Goals.else-len-lt-FULL}
use Rattle.fbcheck_texts.proofs.hint.Draft.ended.Goals as goal

pub invariant_of-result : goal.invariant_of-result
invariant_of-result c =
    let text = c.self.inside.text.items in
    let all = c.in_ok-extend_from_slice.ensures.items in
    elim c.if-len-lt-FULL.branch [
      | then-len-lt-FULL w ↦ ended text c.extend_from_slice.new.self.items c.self.invariant (all ∙ ap (λ (e : List ℕ). text ++ e) (ap (λ b. b.now) w.end-is))
      | else-len-lt-FULL w ↦ cut text c.extend_from_slice.new.self.items c.self.invariant (all ∙ ap (λ (e : List ℕ). text ++ e) (ap (λ b. b.now) w.end-is))
    ]
