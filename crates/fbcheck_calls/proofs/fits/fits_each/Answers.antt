use Rattle.std.proofs.Common.{sym, subst}
use Rattle.fb_schema.specs.declared.kinds.Kind.TheVariants.{Table}
use Rattle.fbcheck_calls.specs.Steps.{FitFrom}
use Rattle.fbcheck_calls.proofs.EachLemmas.{each_fits, fits_each, said_is}
use Rattle.fbcheck_calls.proofs.fits.fits_each.Goals as goal

pub returns : goal.returns
returns c =
    let S = c.args.schema.now in
    let root = c.args.root in
    let p = c.args.path.now in
    let steps = c.in-Some-said.steps.now in
    let are = said_is p steps c.in-Some-said.ensures in (
      λ t. each_fits S root p c.in-Some.ensures.has (subst (FitFrom S (Table root)) are (c.steps_fit.ensures.0 t)),
      λ h. c.steps_fit.ensures.1 (subst (FitFrom S (Table root)) (sym are) (fits_each S root p h)),
    )
