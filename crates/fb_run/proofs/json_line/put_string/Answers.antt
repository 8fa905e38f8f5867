use Rattle.std.proofs.Common.{append_assoc}
use Rattle.fb_run.proofs.JsonLemmas.{string_text}
use Rattle.std.proofs.lemmas.Result.{IfOk-equal}
use Rattle.fb_run.proofs.json_line.put_string.Goals as goal

pub returns : goal.returns
returns g c =
    IfOk-equal c.put-2.result _ _ _ c.put-2.ensures
    (rw (string_text c.args.bytes.now, c.in_ok-put_spelled.ensures, c.in_ok-put.ensures) (simp append_assoc))
