use Rattle.fbcheck_serve.proofs.ByteLemmas.{told_or_not}
use Rattle.fbcheck_serve.proofs.byte_fields.unasked.Goals as goal

pub returns : goal.returns
returns c = told_or_not c.args.fault c.new.result.fault c.bytes_hint.result c.new.ensures
