use Rattle.fb_bytes.proofs.MessageLemmas.{readings_one}
use Rattle.fb_bytes.proofs.messages.one_reading.Goals as goal

pub returns : goal.returns
returns c = readings_one
