use Rattle.std.proofs.Common.{append_assoc}
use Rattle.std.proofs.lemmas.Result.{IfOk-equal}
use Rattle.fb_run.proofs.json_line.put_reason.Goals as goal

pub returns : goal.returns
returns g c =
    IfOk-equal c.put_string-2.result _ _ _ c.put_string-2.ensures
    (rw (c.code_and_name.ensures.name, c.in_ok-put-2.ensures, c.in_ok-put_string.ensures, c.code_and_name.ensures.code, c.in_ok-put.ensures) (simp append_assoc))
