use Rattle.fbcheck_calls.proofs.AnswerLemmas.{bad_gets_no}
use Rattle.fbcheck_calls.proofs.laws.a_bad_buffer_gets_a_no.Goals as goal

pub returns : goal.returns
returns c s n o b plan root ident a can short none answered = bad_gets_no s n o b plan root ident can a none short answered
