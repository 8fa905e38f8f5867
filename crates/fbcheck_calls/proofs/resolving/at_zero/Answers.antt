use Rattle.std.proofs.Common.{◌+◌, ◌∙◌, ap}
use Rattle.std.proofs.Math.ListN.{set}
use Rattle.fbcheck_calls.proofs.StarLemmas.{zero_set}
use Rattle.fbcheck_calls.proofs.resolving.at_zero.Goals as goal

pub returns : goal.returns
returns c =
    let copied = c.in_ok-plain.ensures.items_if_clones_equal (λ x y same. same) in
    ap (λ text. set text (c.args.at + 1) 48) copied ∙ zero_set c.args.text.now c.args.at c.requires
