use Rattle.std.proofs.Common.{◌∙◌, arith, rules}
use Rattle.fbcheck_serve.proofs.stop.Ending.tell_stop.Goals as goal

pub returns-then-tally-manner : goal.returns-then-tally-manner
returns-then-tally-manner g c =
    let (line, told, noted) = c.note_end.ensures in
    rw c.in-Checked.is
    (λ few. absurd (omega (arith, few, c.if-tally-manner.true)), λ _. (line, rw (c.bytes.ensures ∙ c.stopped_text.ensures.text) at told, noted))

pub returns-else-tally-manner : goal.returns-else-tally-manner
returns-else-tally-manner g c = search rules
