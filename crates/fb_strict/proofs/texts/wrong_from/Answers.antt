use Rattle.fb_strict.proofs.Chains.{is_whole, is_wrong}
use Rattle.fb_strict.proofs.texts.wrong_from.Goals as goal

-- src/texts.rt
pub returns-in-Ok-clause-whole : goal.returns-in-Ok-clause-whole
returns-in-Ok-clause-whole c none = is_whole c.args.text.now c.in-Ok.ensures.cases.1

pub returns-in-Err-clause-wrong : goal.returns-in-Err-clause-wrong
returns-in-Err-clause-wrong c = is_wrong c.args.text.now c.in-Err.ensures.cases.0
