use Rattle.std.proofs.Common.{[], ap, refl, sym, ◌∙◌}
use Rattle.fb_strict.specs.declared.demands.Demands.{Demands}
use Rattle.fb_run.proofs.RunLemmas.{err_is}
use Rattle.fbcheck_serve.proofs.StrictLemmas.{by_marks, may_undemanded, may_unless_nested, needed, planless_by}
use Rattle.fbcheck_serve.proofs.strict.plan_of.Goals.{in-Some+in_ok-plan-in-Some, in_default+in_ok-plan-in_default, in_default-via-in-Some+else-demands, in_default-via-in_default}
use Rattle.fbcheck_serve.proofs.strict.plan_of.Goals as goal

pub returns-then-not-is_demanding-clause-may : goal.returns-then-not-is_demanding-clause-may
returns-then-not-is_demanding-clause-may c = may_undemanded c.args.file c.args.schema.now c.args.settings.now (sym c.is_demanding.ensures ∙ c.if-not-is_demanding.true)

pub returns-in_err-plan-in-Some-clause-no : goal.returns-in_err-plan-in-Some-clause-no
returns-in_err-plan-in-Some-clause-no c =
    let nested = sym (ap (λ (d : Demands). d.nested) c.demanded-demands.ensures) ∙ c.if-demands.true in
    rw (err_is _ _ c.from_residual.ensures.1, c.in-Some.is)
    (planless_by c.in-Some.bytes c.args.schema.now c.args.settings.now (needed c.in-Some.bytes c.args.settings.now nested) _ c.in_err-plan-in-Some.ensures.no)

pub returns-clause-plan : goal.returns-clause-plan
returns-clause-plan c =
    let settings = c.args.settings.now in
    let demanding = sym c.is_demanding.ensures ∙ c.if-not-is_demanding.false in
    let nested = sym (ap (λ (d : Demands). d.nested) c.demanded-demands.ensures) in
    elim c.match-file.branch [
      | in-Some+in_ok-plan-in-Some w ↦
          rw (w.in-Some.is, w.plan-is) (by_marks w.in-Some.bytes c.args.schema.now settings _ demanding (nested ∙ w.if-demands.true) w.in_ok-plan-in-Some.ensures.plan).0
      | in_default+in_ok-plan-in_default w ↦ rw w.plan-is (
        demanding,
        [],
        elim w.in_default.branch [
          | in_default-via-in-Some+else-demands v ↦ rw (v.in-Some.is, nested ∙ v.if-demands.false) refl
          | in_default-via-in_default v ↦ rw v.in_default.is refl
        ],
        rw c.demanded-demands.ensures at w.in_ok-plan-in_default.ensures.plan,
      )
    ]

pub returns-clause-may : goal.returns-clause-may
returns-clause-may c =
    let settings = c.args.settings.now in
    let demanding = sym c.is_demanding.ensures ∙ c.if-not-is_demanding.false in
    let nested = sym (ap (λ (d : Demands). d.nested) c.demanded-demands.ensures) in
    elim c.match-file.branch [
      | in-Some+in_ok-plan-in-Some w ↦ rw w.in-Some.is (by_marks w.in-Some.bytes c.args.schema.now settings _ demanding (nested ∙ w.if-demands.true) w.in_ok-plan-in-Some.ensures.plan).1
      | in_default+in_ok-plan-in_default w ↦ elim w.in_default.branch [
        | in_default-via-in-Some+else-demands v ↦ may_unless_nested c.args.file c.args.schema.now settings (nested ∙ v.if-demands.false)
        | in_default-via-in_default v ↦ rw v.in_default.is (λ needs. absurd needs)
      ]
    ]
