use Rattle.std.proofs.Common.{append_assoc}
use Rattle.std.proofs.lemmas.Result.{IfOk-equal}
use Rattle.fb_run.proofs.JsonLemmas.{place_parts}
use Rattle.fb_run.proofs.json_line.put_place.Goals as goal

pub returns-in_ok-put_text-in-Some : goal.returns-in_ok-put_text-in-Some
returns-in_ok-put_text-in-Some g c =
    rw c.in-Some.is (IfOk-equal c.put-in-Some.result _ _ _ c.put-in-Some.ensures (rw (place_parts c.in-Some.place.now, c.in_ok-put_text-in-Some.ensures, c.in_ok-put-in-Some.ensures) (simp append_assoc)))
