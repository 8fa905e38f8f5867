use Rattle.std.proofs.Common.{◌≡◌, ◌+◌, sym, subst, drop, get_or, arith, None, Some}
use Rattle.std.proofs.lemmas.Bool.{false≢true}
use Rattle.fb_access.specs.Fitting.{next_kind}
use Rattle.fbcheck_calls.specs.Steps.{FitFrom, no_step, step_of}
use Rattle.fbcheck_calls.proofs.{FitLemmas.fit_back, FitLemmas.fit_on, FitLemmas.fits_not, StepLemmas.next_of}
use Rattle.fbcheck_calls.proofs.fits.steps_fit.Goals as goal

pub loop-given-preserved : goal.loop-given-preserved
loop-given-preserved c =
    let S = c.args.schema.now in
    let kind = c.loop-given.kind in
    let i = c.loop-given.given-index in
    let steps = c.args.steps.now in
    let given = get_or steps i no_step in
    let rest = drop (i + 1) steps in
    let s = c.in-Some.step in
    let to = c.in-Some-next_kind.next in
    let cons = next_of steps i no_step (omega arith) in
    let found : step_of given ≡ Some s = sym c.in-Some.ensures in
    let leads : next_kind S kind s ≡ Some to = sym c.in-Some-next_kind.ensures in
    record {
      on = λ h. fit_on S kind given rest s to found leads (subst (λ r. FitFrom S kind r) cons (c.loop-given.invariant.on h));
      back = λ h. c.loop-given.invariant.back (subst (λ r. FitFrom S kind r) (sym cons) (fit_back S kind given rest s to found leads h));
    }

pub returns-in-None : goal.returns-in-None
returns-in-None c =
    let S = c.args.schema.now in
    let kind = c.loop-given.kind in
    let i = c.loop-given.given-index in
    let steps = c.args.steps.now in
    let given = get_or steps i no_step in
    let s = c.in-Some.step in
    let cons = next_of steps i no_step (omega arith) in
    let found : step_of given ≡ Some s = sym c.in-Some.ensures in
    let ends : next_kind S kind s ≡ None = sym c.in-None.ensures in
    (λ t. absurd (false≢true t), λ h. absurd (fits_not S kind given (drop (i + 1) steps) s found ends (subst (λ r. FitFrom S kind r) cons (c.loop-given.invariant.on h))))
