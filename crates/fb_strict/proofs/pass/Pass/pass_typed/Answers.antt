use Rattle.std.proofs.Common.{ap, ◌∙◌}
use Rattle.fb_strict.specs.{declared.demands.Demands.Demands, Planned.Planned, Passing.Passing, Passing.wants_of, Asked.asked_referent}
use Rattle.fb_strict.proofs.Answered.{ok_for, failed_none}
use Rattle.fb_strict.proofs.pass.Pass.pass_typed.Goals as goal

-- src/uoffsets.rt
pub returns : goal.returns
returns g c =
    let checks = ap (λ (x : Passing). x.checks) c.self.view_is in
    let rows = ap (λ (x : Passing). x.rows) c.self.view_is in
    let m = c.args.reads.now in
    let u = c.test_element-failed in
    let plan = ap (λ (x : Passing). x.plan) c.self.view_is in
    let asked = ap (λ (D : Demands). D.unions) c.demands-asked.ensures ∙ ap (λ (q : Planned). q.demands.unions) plan in
    let tested = rw (checks, rows, asked) at u.ensures.tested in
    let a = c.in_ok-answer.ensures m _ _ tested in
    let none = failed_none m u.new.reads u.new.at _ u.result _ tested a.ok in
    (ok_for _ _ c.args.site c.args.self.now.limits m u.new.reads _ _ c.args.place a, c.asked_referent.ensures ∙ ap (asked_referent (wants_of c.args.self.now)) (rw rows at (u.ensures.member none)))
