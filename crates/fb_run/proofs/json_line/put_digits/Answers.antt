use Rattle.std.proofs.Common.{append_assoc}
use Rattle.fb_run.proofs.JsonLemmas.{labelled_digits}
use Rattle.std.proofs.lemmas.Result.{IfOk-equal}
use Rattle.fb_run.proofs.json_line.put_digits.Goals as goal

pub returns : goal.returns
returns g c =
    IfOk-equal c.put-2.result _ _ _ c.put-2.ensures
    (rw (labelled_digits c.args.label.now c.args.bytes.now c.type_inv.bytes, c.in_ok-put_hex.ensures, c.in_ok-put_string.ensures, c.in_ok-put.ensures) (simp append_assoc))
