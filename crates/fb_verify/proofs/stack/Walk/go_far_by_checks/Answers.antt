use Rattle.fb_verify.proofs.IntoField.{far_turned}
use Rattle.fb_verify.proofs.stack.Walk.go_far_by_checks.Goals as goal

pub pass_row-requires : goal.pass_row-requires
pass_row-requires g c = rw c.in-Down.ensures.same c.in-Down.ensures.row

pub returns-in-Down : goal.returns-in-Down
returns-in-Down g c = far_turned _ _ _ _ c.in-Down.ensures c.pass_row.result c.pass_row.ensures
