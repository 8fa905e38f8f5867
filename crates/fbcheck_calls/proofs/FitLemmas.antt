-- How steps that fit go on from kind to kind.
use Rattle.std.proofs.Common.{◌≡◌, List, [], ◌∷◌, None, Some, subst}
use Rattle.fb_schema.specs.{Rows.Rows, declared.kinds.Kind.Kind}
use Rattle.fb_access.specs.{Fitting.StepsFit, Fitting.next_kind, declared.step.Step.Step}
use Rattle.fbcheck_calls.specs.{Steps.FitFrom, Steps.step_of, declared.steps.PlainStep.PlainStep}

module _ (S : Rows) (kind : Kind) (c : PlainStep) (cs : List PlainStep) where
  pub fit_on : (s : Step) (after : Kind) → step_of c ≡ Some s → next_kind S kind s ≡ Some after → FitFrom S kind (c ∷ cs) → FitFrom S after cs
  fit_on s after e n ([], are, fits) = absurd are
  fit_on s after e n (s' ∷ path, are, fits) =
      let found : step_of c ≡ Some s' = are.0 in
      let same : s' ≡ s = cc in
      let to : next_kind S kind s ≡ Some fits.0 = subst (λ v. next_kind S kind v ≡ Some fits.0) same fits.1 in
      let kinds : fits.0 ≡ after = cc in
      (path, are.1, subst (λ k. StepsFit S k path) kinds fits.2)

  pub fit_back : (s : Step) (after : Kind) → step_of c ≡ Some s → next_kind S kind s ≡ Some after → FitFrom S after cs → FitFrom S kind (c ∷ cs)
  fit_back s after e n h = (s ∷ h.0, (e, h.1), (after, n, h.2))

  pub fits_not : (s : Step) → step_of c ≡ Some s → next_kind S kind s ≡ None → FitFrom S kind (c ∷ cs) → ⊥
  fits_not s e n ([], are, fits) = are
  fits_not s e n (s' ∷ path, are, fits) =
      let found : step_of c ≡ Some s' = are.0 in
      let same : s' ≡ s = cc in
      let to : next_kind S kind s ≡ Some fits.0 = subst (λ v. next_kind S kind v ≡ Some fits.0) same fits.1 in
      let wrong : None ≡ Some fits.0 = cc in
      cc
