use Rattle.std.proofs.Common.{Err, Ok, rules}
use Rattle.fb_access.specs.Resolving.{fault_of}
use Rattle.fb_access.proofs.OneAnswer.{one_answer}
use Rattle.fb_access.proofs.hint.path_hint.Goals as goal

-- what has a fault doesn't resolve
pub returns-in-Some : goal.returns-in-Some
returns-in-Some c steps resolves =
    let (step, fault) = c.in-Some.ensures.fault in
    absurd (let one = one_answer c.args.schema.now c.args.root c.args.text.now (Ok steps) (Err (fault_of c.in-Some.missed.misfit step)) resolves fault in cc)

pub returns-in_default : goal.returns-in_default
returns-in_default c = search rules
