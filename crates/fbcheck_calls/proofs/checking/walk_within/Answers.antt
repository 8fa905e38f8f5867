use Rattle.fb_rules.specs.declared.fault.{Fault.Fault, Report.Report}
use Rattle.fbcheck_calls.proofs.{AnswerLemmas.plain_is_plain, BegunLemmas.found_told, BegunLemmas.told_as, BegunLemmas.unchecked_is_checked}
use Rattle.fbcheck_calls.proofs.checking.walk_within.Goals as goal

pub returns-in-Err-clause-told : goal.returns-in-Err-clause-told
returns-in-Err-clause-told c = told_as _ (unchecked_is_checked c.args.basis.now _ c.args.options.now c.args.buffer.now) (rw c.levels.ensures at c.in-Err.ensures.starts)

pub returns-clause-told : goal.returns-clause-told
returns-clause-told c =
    found_told (record { starts = rw c.levels.ensures at c.in-Ok.ensures.starts; same = c.metered.ensures.bytes; plan_is = plain_is_plain c.args.basis.now c.args.options.now c.requires.plain }) (λ (r : Report). r) (λ (f : Fault). f) c.walk-found.result c.tell_found.ensures.told c.walk-found.ensures.yes c.walk-found.ensures.none c.walk-found.ensures.no
