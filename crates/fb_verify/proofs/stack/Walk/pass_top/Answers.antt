use Rattle.std.proofs.Common.{sym, ◌∙◌, ap, subst, arith}
use Rattle.fb_verify.specs.{Turns.IsBrim, declared.stack.Walk.Walk}
use Rattle.fb_verify.proofs.stack.Walk.pass_top.Goals as goal
use Rattle.fb_verify.proofs.stack.Walk.pass_top.Goals.{then-top-gt0+in-Up, else-top-gt0}

-- the row was passed, or there was none
pub pass_fields-requires : goal.pass_fields-requires
pass_fields-requires g c = elim c.if-top-gt0.branch [
  | then-top-gt0+in-Up w ↦
      let e = w.in-Up.ensures in
      let brim = subst (λ (x : Walk). IsBrim x c.args.brim) (sym e.on.same) c.requires.1.1.1.0 in
      rw (w.self-is, w.reads-is, w.top-is) (c.requires.0, (record { walking = e.on.walking; rests = e.rests }, (e.on.short, (brim, c.requires.1.1.1.1 ∙ sym (ap (λ (x : Walk). x.checks) e.on.same)))))
  | else-top-gt0 w ↦
      rw (w.self-is, w.reads-is, w.top-is) (c.requires.0, (record { walking = c.requires.1.0; rests = omega (arith, w.if-top-gt0.false) }, (c.requires.1.1.0, (c.requires.1.1.1.0, c.requires.1.1.1.1))))
]
