use Rattle.std.proofs.Common.{◌∙◌, rules, sym}
use Rattle.std.proofs.lemmas.List.{take_rest}
use Rattle.fb_run.specs.AnswerText.{spelled}
use Rattle.fb_run.proofs.AnswerLemmas.{one_spelled, spelled_added}
use Rattle.fb_run.proofs.value_text.put_spelled.Goals as goal

pub loop-rest-preserved-then-plain-gt0 : goal.loop-rest-preserved-then-plain-gt0
loop-rest-preserved-then-plain-gt0 g c =
    let (front, whole, first) = c.loop-rest.invariant in
    spelled_added (spelled c.args.spelling) c.args.bytes.now front c.loop-rest.rest.now c.plain_front-plain.result _ _ c.args.text.now.items _ _ (take_rest c.loop-rest.rest.now c.plain_front-plain.result)
    (sym c.plain_front-plain.ensures.plain) whole first c.in_ok-extend_from_slice.ensures.items

pub loop-rest-preserved : goal.loop-rest-preserved
loop-rest-preserved g c =
    let (front, whole, first) = c.loop-rest.invariant in
    spelled_added (spelled c.args.spelling) c.args.bytes.now front c.loop-rest.rest.now 1 _ _ c.args.text.now.items _ _ (take_rest c.loop-rest.rest.now 1)
    (c.spell-length.ensures.text ∙ one_spelled (spelled c.args.spelling) c.loop-rest.rest.now _ (search rules)) whole first c.in_ok-extend_from_slice-2.ensures.items
