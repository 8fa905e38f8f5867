use Rattle.fbcheck_calls.proofs.EachLemmas.{good_stays_read_of_each}
use Rattle.fbcheck_calls.proofs.laws.good_bytes_stay_readable_by_elements.Goals as goal

pub returns : goal.returns
returns c = good_stays_read_of_each
