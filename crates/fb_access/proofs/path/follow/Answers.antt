use Rattle.std.proofs.Common.{arith, inl, sym, ◌∙◌, subst}
use Rattle.fb_access.specs.Cutting.{IsNext}
use Rattle.fb_access.proofs.Following.{begins, goes_on, leads_on, is_fault, still_stuck, ended, all_followed, resolved_fits}
use Rattle.fb_access.proofs.path.follow.Goals.{in-Some, in-None}
use Rattle.fb_access.proofs.path.follow.Goals as goal

pub loop-next-init : goal.loop-next-init
loop-next-init g c = record { there = c.requires; left = (_, c.first_part-next.ensures, rw c.new-steps.ensures.items (begins _ _ _)) }

pub bad_text-requires : goal.bad_text-requires
bad_text-requires g c =
    let (left, is, walked) = c.loop-next.invariant.left in
    still_stuck _ _ _ left _ _ walked _ _ (subst (IsNext left) c.in-Part.is is) _ (rw c.in-Some.is at c.wrong_from.ensures)

pub returns-in-Err-clause-refused : goal.returns-in-Err-clause-refused
returns-in-Err-clause-refused g c =
    let (left, is, walked) = c.loop-next.invariant.left in
    elim c.match-wrong_from.branch [
      | in-Some w ↦ rw w.result-is (inl (w.bad_text.ensures _ _))
      | in-None w ↦
          let (parts, spells) = rw w.in-None.is at c.wrong_from.ensures in
          rw (w.result-is, w.fault_at.ensures) (inl (is_fault _ _ _ left _ _ walked _ _ (subst (IsNext left) c.in-Part.is is) w.len.result (omega (arith, w.len.ensures, c.loop-next.steps.ok.0)) c.in-Err.misfit (λ p h. sym c.in-Err.is ∙ c.fit.ensures p h) parts spells))
    ]

pub loop-next-preserved : goal.loop-next-preserved
loop-next-preserved g c =
    let (left, is, walked) = c.loop-next.invariant.left in
    let cut = subst (IsNext left) c.in-Part.is is in
    record {
      there = leads_on _ _ left _ _ _ c.lawful.ensures.legal c.lawful.ensures.served c.loop-next.invariant.there cut (λ p h. sym c.in-Ok.is ∙ c.fit.ensures p h);
      left = (_, c.next_part-next.ensures, rw c.in-Ok-push.ensures.items (goes_on _ _ _ left _ _ walked _ _ cut c.in-Ok.fitted (λ p h. sym c.in-Ok.is ∙ c.fit.ensures p h)));
    }

pub returns-in-Wrong : goal.returns-in-Wrong
returns-in-Wrong g c = record { steps = tt; fit = tt; refused = inl (c.bad_text-in-Wrong.ensures _ _) }

pub returns-in_default-next : goal.returns-in_default-next
returns-in_default-next g c =
    let (left, is, walked) = c.loop-next.invariant.left in
    let resolves = all_followed _ _ _ left _ _ walked (ended left _ is c.in_default.not-Part c.in_default-next.not-Wrong) in
    record { steps = resolves; fit = resolved_fits _ _ _ _ c.lawful.ensures.legal c.lawful.ensures.served c.requires resolves; refused = tt }
