use Rattle.std.proofs.Common.{◌∙◌}
use Rattle.fbcheck_serve.proofs.asked.find_path.Goals as goal

pub returns-clause-path : goal.returns-clause-path
returns-clause-path c =
    let found = rw c.as_bytes.ensures.value at c.in_ok-path.ensures.steps in
    let copied = c.in_ok-text.ensures.items_if_clones_equal (λ x y same. same) ∙ c.as_bytes-2.ensures.value in
    rw c.new.ensures (copied, found)
