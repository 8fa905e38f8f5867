use Rattle.std.proofs.Common.{◌∙◌}
use Rattle.fbcheck_serve.proofs.NamesLemmas.{no_text, text_right}
use Rattle.fbcheck_serve.proofs.names.Name.text.Goals as goal

pub returns-in-Ok-clause-text : goal.returns-in-Ok-clause-text
returns-in-Ok-clause-text c =
    let (same, text) = c.in-Ok.ensures.cases in
    (same ∙ c.bytes.ensures, c.is_missing.ensures.others c.if-is_missing.false ∙ text_right c.bytes.result.now c.args.self.now.bytes c.bytes.ensures text)

pub returns-in-Err-clause-wrong : goal.returns-in-Err-clause-wrong
returns-in-Err-clause-wrong c =
    c.is_missing.ensures.others c.if-is_missing.false ∙ no_text c.bytes.result.now c.args.self.now.bytes c.bytes.ensures c.in-Err.ensures.cases.0
