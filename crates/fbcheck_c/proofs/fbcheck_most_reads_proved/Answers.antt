use Rattle.std.proofs.Common.{ap, refl, Ok, Err}
use Rattle.fbcheck_calls.specs.declared.outcome.Verdict.{Verdict}
use Rattle.fbcheck_c.proofs.fbcheck_most_reads_proved.Goals as goal

pub returns-in-Ok : goal.returns-in-Ok
returns-in-Ok c = record { answer = Ok c.in-Ok.most; priced = rw (← c.held.ensures) c.in-Ok.ensures; reads_are = refl; status_is = c.number.ensures }

pub returns-in-Err : goal.returns-in-Err
returns-in-Err c = record { answer = Err c.in-Err.answer; priced = rw (← c.held.ensures) c.in-Err.ensures; reads_are = refl; status_is = ap (λ (v : Verdict). v.status) c.told.ensures }
