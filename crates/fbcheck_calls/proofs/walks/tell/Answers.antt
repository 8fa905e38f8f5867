use Rattle.std.proofs.Common.{ap, ◌≡◌, ◌∙◌, length}
use Rattle.fb_access.specs.Denotes.{shown, value}
use Rattle.fbcheck_calls.specs.Values.{placed, value_at, value_told}
use Rattle.fbcheck_calls.proofs.AgainLemmas.{lies_within}
use Rattle.fbcheck_calls.proofs.walks.tell.Goals as goal

pub returns : goal.returns
returns c =
    let q = c.args.spot in
    let b = c.args.window.now in
    let S = c.args.schema.now in
    let seen = c.in_ok-seen.ensures in
    let told : c.told_value.result ≡ value_told (value b S q) = c.told_value.ensures ∙ ap value_told seen.shows in
    let stands = seen.stands in
    let is : c.placed.result ≡ value_at b S q = c.placed.ensures ∙ (λ i. placed (told i) (stands i)) in
    record {
      value = is;
      within = rw (c.placed.ensures, c.told_value.ensures) (lies_within (length b) (shown c.in_ok-seen.seen.answer) c.in_ok-seen.seen.extent seen.within);
    }
