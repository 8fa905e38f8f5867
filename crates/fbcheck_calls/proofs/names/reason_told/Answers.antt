use Rattle.std.proofs.Common.{◌∙◌, Some}
use Rattle.fbcheck_calls.proofs.names.reason_told.Goals as goal

pub returns-in-Some : goal.returns-in-Some
returns-in-Some c =
    let text = c.as_bytes.ensures.value ∙ c.text.ensures.name in
    (Some c.as_bytes.result.now, (c.in-Some.reason, c.in-Some.ensures, text), (c.copied.ensures.length, c.copied.ensures.room))
