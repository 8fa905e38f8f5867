use Rattle.std.proofs.Common.{rules, refl, []}
use mathlib.Core.Logic.{inr}
use Rattle.fbcheck_texts.proofs.FaultJsonLemmas.{plain_in}
use Rattle.fbcheck_serve.specs.Inputs.{fault_line}
use Rattle.fbcheck_serve.proofs.inputs.tell_end.Goals as goal

pub returns-in_err-line : goal.returns-in_err-line
returns-in_err-line g c =
    inr (c.in-Some.hint.now, fault_line c.args.name.now c.in-Some.hint.now [], (rw c.in-Some.is at c.requires.line), plain_in c.args.form _ _ _ refl, search rules)
