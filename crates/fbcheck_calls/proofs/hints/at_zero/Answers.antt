use Rattle.std.proofs.Common.{◌≡◌, ◌+◌, ◌∙◌, ◌++◌, ap}
use Rattle.std.proofs.Math.ListN.{set}
use Rattle.fbcheck_calls.proofs.{HintLemmas.written_back, StarLemmas.zero_set}
use Rattle.fbcheck_calls.proofs.hints.at_zero.Goals as goal

pub returns : goal.returns
returns c =
    let all = c.try_extend_from_slice.new.self.items in
    let text = c.args.text.now in
    let at = c.args.at in
    let is : all ≡ text = c.in-Ok.ensures.ok ∙ ap (λ front. front ++ text) c.new-plain.ensures in
    rw c.deref_mut.ensures.value (written_back all (at + 1) 48 ∙ ap (λ bytes. set bytes (at + 1) 48) is ∙ zero_set text at c.requires)
