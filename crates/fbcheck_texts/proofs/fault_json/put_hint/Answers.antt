use Rattle.std.proofs.Common.{arith}
use Rattle.std.proofs.lemmas.Grind.{common_steps}
use Rattle.fbcheck_texts.proofs.fault_json.put_hint.Goals as goal

pub returns : goal.returns
returns c = grind (arith, common_steps)
