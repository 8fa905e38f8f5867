use Rattle.std.proofs.Common.{length, refl, sym, ◌∙◌, subst}
use Rattle.fb_access.specs.Cutting.{IsNext}
use Rattle.fb_access.proofs.Following.{begins, goes_on, is_fault, leads_on}
use Rattle.fb_access.proofs.path.misfit_at.Goals as goal

pub loop-next-init : goal.loop-next-init
loop-next-init c = record { there = c.requires; left = (_, c.first_part-next.ensures, _, begins _ _ _) }

pub returns-in-None-clause-fault : goal.returns-in-None-clause-fault
returns-in-None-clause-fault c =
    let (left, is, steps, walked) = c.loop-next.invariant.left in
    let (parts, spells) = rw c.in-None.is at c.wrong_from.ensures in
    (length steps, is_fault _ _ _ left _ _ walked _ _ (subst (IsNext left) c.in-Part.is is) (length steps) refl c.in-Err.misfit (λ p h. sym c.in-Err.is ∙ c.fit.ensures p h) parts spells)

pub loop-next-preserved : goal.loop-next-preserved
loop-next-preserved c =
    let (left, is, steps, walked) = c.loop-next.invariant.left in
    let cut = subst (IsNext left) c.in-Part.is is in
    record {
      there = leads_on _ _ left _ _ _ c.lawful.ensures.legal c.lawful.ensures.served c.loop-next.invariant.there cut (λ p h. sym c.in-Ok.is ∙ c.fit.ensures p h);
      left = (_, c.next_part-next.ensures, _, goes_on _ _ _ left _ _ walked _ _ cut c.in-Ok.fitted (λ p h. sym c.in-Ok.is ∙ c.fit.ensures p h));
    }
