use Rattle.std.proofs.Common.{◌∙◌, arith, rules}
use Rattle.fbcheck_serve.proofs.inputs.tell_stop.Goals as goal

pub returns-clause-told : goal.returns-clause-told
returns-clause-told g c =
    let line = rw (c.bytes.ensures ∙ c.stopped_text-why.ensures.text) at c.in_ok-line.ensures in
    (λ few. absurd (omega (arith, few, c.if-tally-most_bad.false)), λ _. (c.in_ok-line.line.items, line, rw c.as_slice.ensures.value at c.note.ensures))

pub returns-then-tally-most_bad-clause-told : goal.returns-then-tally-most_bad-clause-told
returns-then-tally-most_bad-clause-told g c = search rules
