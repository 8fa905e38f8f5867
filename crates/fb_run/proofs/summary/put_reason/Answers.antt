use Rattle.std.proofs.Common.{arith}
use Rattle.fb_run.proofs.SumsLemmas.{reason_short}
use Rattle.fb_run.proofs.summary.put_reason.Goals as goal

pub returns-clause-short : goal.returns-clause-short
returns-clause-short c =
    reason_short _ _ _ _ _ c.args.number c.requires.number c.put_number.ensures.length (omega (arith, c.in_form.ensures.short, c.put_text.ensures.length)) c.put_number-2.ensures.text
    (omega (arith, c.in_form-2.ensures.short, c.put_text-2.ensures.length))
