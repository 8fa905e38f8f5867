use Rattle.std.proofs.Common.{rules, refl}
use Rattle.fbcheck_texts.proofs.FaultJsonLemmas.{plain_in}
use Rattle.fbcheck_serve.specs.Inputs.{fault_line}
use Rattle.fbcheck_serve.proofs.inputs.tell_fault.Goals as goal

pub returns-in_err-line : goal.returns-in_err-line
returns-in_err-line g c = (fault_line c.args.name.now c.args.why.now c.args.behind.now, plain_in c.args.form _ _ _ refl, search rules)
