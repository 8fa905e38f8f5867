use Rattle.std.proofs.Common.{ℕ, List, Vec, Global, append_assoc, option_map}
use Rattle.std.specs.Borrow.{Bor}
use Rattle.fb_run.proofs.JsonLemmas.{no_line}
use Rattle.std.proofs.lemmas.Result.{IfOk-equal}
use Rattle.fb_run.proofs.json_line.put_no.Goals as goal

pub returns : goal.returns
returns g c =
    let line = no_line (option_map (λ (f : Vec ℕ Global). f.items) c.args.file.now) c.args.spot.now c.args.schema.now c.args.fault.now (option_map (λ (p : Bor (List ℕ)). p.now) c.args.place) in
    IfOk-equal c.put.result _ _ _ c.put.ensures
    (rw (line, c.in_ok-put_end.ensures, c.in_ok-put_names.ensures, c.in_ok-put_number.ensures, c.in_ok-put_reason.ensures, c.in_ok-put_begin.ensures) (simp append_assoc))
