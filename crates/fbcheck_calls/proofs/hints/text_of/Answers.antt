use Rattle.fbcheck_calls.specs.Hinted.{is_shown}
use Rattle.fbcheck_calls.proofs.HintLemmas.{first_ones}
use Rattle.fbcheck_calls.proofs.hints.text_of.Goals as goal

pub put-requires : goal.put-requires
put-requires c = rw c.truncate.ensures.items (first_ones is_shown 1022 c.loop-piece.text.items c.loop-piece.invariant)
