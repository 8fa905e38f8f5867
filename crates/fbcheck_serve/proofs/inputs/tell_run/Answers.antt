use Rattle.std.proofs.Common.{◌∙◌, ap, sym}
use Rattle.fbcheck_texts.specs.{Texts.run_text, declared.causes.Causes.Causes}
use Rattle.fbcheck_serve.proofs.inputs.tell_run.Goals as goal

pub returns : goal.returns
returns g c =
    let why = c.bytes.ensures ∙ c.run_text-why.ensures.text ∙ ap (λ (causes : Causes). run_text causes c.in-Err.fault) c.of_read.ensures in
    rw (c.in-Err.is, sym c.is_final.ensures ∙ c.if-is_final.false, ← why) (_, c.run_hint-behind.ensures, c.tell_fault.ensures)
