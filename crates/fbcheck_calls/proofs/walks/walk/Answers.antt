use Rattle.std.proofs.Common.{◌≡◌, ◌∙◌, ◌+◌, [], ◌++◌, refl, sym, subst, drop, get_or, arith, None, Some}
use Rattle.std.proofs.lemmas.List.{drop_all}
use Rattle.fb_access.specs.Denotes.{next_spot}
use Rattle.fb_access.proofs.{StepKinds.kinds_go_on, Staying.step_stays, Tested.changed}
use Rattle.fbcheck_calls.specs.{Steps.AreSteps, Steps.FitHere, Steps.no_step, Steps.step_of, Walks.LeadTo}
use Rattle.fbcheck_calls.proofs.{AgainLemmas.no_step_fits, AgainLemmas.stuck_fits, StepLemmas.IsReachedBy, StepLemmas.fit_more, StepLemmas.next_of, StepLemmas.reaches_more}
use Rattle.fbcheck_calls.proofs.walks.walk.Goals as goal

pub loop-given-init : goal.loop-given-init
loop-given-init c = record {
  served = c.lawful.ensures.served;
  tested = c.requires.tested;
  held = λ h. h;
  reached = λ path x are reach. (path, are, reach);
  fit = λ rest h. h;
}

pub returns-in_err-to : goal.returns-in_err-to
returns-in_err-to c = changed _ _ _ _ c.from_residual.ensures.1 (λ h. c.in_err-to.ensures (c.loop-given.invariant.held h))

pub returns-in_default : goal.returns-in_default
returns-in_default c =
    let i = c.loop-given.given-index in
    let S = c.args.schema.now in
    let steps = c.args.steps.now in
    let given = get_or steps i no_step in
    let p = c.loop-given.spot in
    let stuck : step_of given ≡ None = sym c.step.ensures ∙ c.in_default.is in
    let cons = next_of steps i no_step (omega arith) in
    λ rest h. no_step_fits S p given (drop (i + 1) steps ++ rest) stuck (subst (λ left. FitHere S p (left ++ rest)) cons (c.loop-given.invariant.fit rest h))

pub returns-in-None : goal.returns-in-None
returns-in-None c =
    let i = c.loop-given.given-index in
    let b = c.args.window.now in
    let S = c.args.schema.now in
    let steps = c.args.steps.now in
    let given = get_or steps i no_step in
    let p = c.loop-given.spot in
    let s = c.in-Some.step in
    let found : step_of given ≡ Some s = sym c.in-Some.ensures in
    let cons = next_of steps i no_step (omega arith) in
    let stuck : next_spot b S p s ≡ None = sym c.in_ok-to.ensures.0 ∙ c.in-None.is in
    λ rest h. stuck_fits S p given (drop (i + 1) steps ++ rest) b s found stuck (subst (λ left. FitHere S p (left ++ rest)) cons (c.loop-given.invariant.fit rest h))

pub loop-given-preserved : goal.loop-given-preserved
loop-given-preserved c =
    let i = c.loop-given.given-index in
    let b = c.args.window.now in
    let S = c.args.schema.now in
    let steps = c.args.steps.now in
    let given = get_or steps i no_step in
    let p = c.loop-given.spot in
    let q = c.in-Some-2.to in
    let s = c.in-Some.step in
    let found : step_of given ≡ Some s = sym c.in-Some.ensures in
    let cons = next_of steps i no_step (omega arith) in
    let leads : next_spot b S p s ≡ Some q = sym c.in_ok-to.ensures.0 ∙ c.in-Some-2.is in
    let end = LeadTo b S c.args.from steps in
    record {
      served = c.loop-given.invariant.served;
      tested = rw c.in-Some-2.is at c.in_ok-to.ensures.1;
      held = λ h. step_stays b S p s q c.loop-given.invariant.served (c.loop-given.invariant.held h) leads;
      reached = reaches_more S p given (drop (i + 1) steps) b end s q found leads (subst (λ left. IsReachedBy b S p left end) cons c.loop-given.invariant.reached);
      fit = λ rest h. fit_more S p given (drop (i + 1) steps ++ rest) s q found (kinds_go_on b S p s q leads) (subst (λ left. FitHere S p (left ++ rest)) cons (c.loop-given.invariant.fit rest h));
    }

pub returns : goal.returns
returns c =
    let none : drop c.loop-given.given-index c.args.steps.now ≡ [] = drop_all c.loop-given.given-index c.args.steps.now (omega arith) in
    let q = c.loop-given.spot in
    record {
      tested = c.loop-given.invariant.tested;
      lead = c.loop-given.invariant.reached [] q (subst (λ left. AreSteps left []) (sym none) tt) refl;
      held = c.loop-given.invariant.held;
      fit = λ rest h. subst (λ left. FitHere c.args.schema.now q (left ++ rest)) none (c.loop-given.invariant.fit rest h);
    }
