use Rattle.std.proofs.Common.{append_assoc}
use Rattle.std.proofs.lemmas.Result.{IfOk-equal}
use Rattle.fb_run.proofs.json_line.put_begin.Goals as goal

pub returns-in_ok-put_text-in-Some : goal.returns-in_ok-put_text-in-Some
returns-in_ok-put_text-in-Some g c =
    rw c.in-Some.is (IfOk-equal c.put_spot.result _ _ _ c.put_spot.ensures (rw (c.in_ok-put_text-in-Some.ensures, c.in_ok-put-in-Some.ensures, c.deref.ensures.value) (simp append_assoc)))
