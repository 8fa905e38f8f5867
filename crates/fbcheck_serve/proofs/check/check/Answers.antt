use Rattle.std.proofs.Common.{◌≡◌, Err, rules}
use Rattle.fbcheck_serve.proofs.check.check.Given.{Over}
use Rattle.fbcheck_serve.proofs.check.check.Goals as goal

stopped : (g : Over) (c : goal.In-Ok-Err g) → c.in-Ok-Err.field-0.end ≡ Err c.in-Ok-Err.fault
stopped g c = search rules

pub returns-in-Ok-Err-clause-run : goal.returns-in-Ok-Err-clause-run
returns-in-Ok-Err-clause-run g c = (c.in-Ok-Err.field-0.tally, rw (stopped g c) at c.in-Ok-Err.ensures.run)
