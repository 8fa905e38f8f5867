use Rattle.std.proofs.Common.{rules}
use Rattle.fbcheck_texts.proofs.fault_json.hint_text.Goals as goal

pub returns : goal.returns
returns c = search rules
