use Rattle.std.proofs.Common.{arith, sym, rules}
use Rattle.std.proofs.lemmas.Option.{slice_get_past}
use Rattle.fbcheck_calls.specs.Names.{status_texts}
use Rattle.fbcheck_calls.proofs.names.status_text.Goals as goal

pub returns-in_default : goal.returns-in_default
returns-in_default c = sym (slice_get_past status_texts c.args.status (omega (arith, c.in_default)))

pub returns-in-5 : goal.returns-in-5
returns-in-5 c = search rules
