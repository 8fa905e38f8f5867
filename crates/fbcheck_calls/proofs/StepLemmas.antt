-- How steps lead on from a spot, and that steps that fit are allowed.
use Rattle.std.proofs.Common.{◌≡◌, ℕ, ◌+◌, ◌<◌, get_or, add-one, List, [], ◌∷◌, ◌++◌, length, take, drop, sym, ap, subst, ◌∙◌, arith, append_assoc, drop-cons, length-take-le, Some}
use Rattle.std.proofs.{Math.ListN.set, lemmas.List.set_at, lemmas.List.take_more, lemmas.Slice.Zip.AllZip-long, lemmas.Slice.Zip.all_zipped_more}
use Rattle.fb_schema.specs.Rows.{Rows}
use Rattle.fb_access.specs.{Denotes.Leads, Denotes.Reaches, Fitting.next_kind, Here.KindsGoOn, declared.step.Step.Step, declared.spot.Spot.Spot}
use Rattle.fbcheck_calls.specs.{Steps.AreSteps, Steps.FitHere, Steps.step_of, declared.steps.PlainStep.PlainStep}

-- the step at a place is the first of those from there on
pub next_of : (steps : List PlainStep) (i : ℕ) (d : PlainStep) → i < length steps → drop i steps ≡ get_or steps i d ∷ drop (i + 1) steps
next_of steps i d within = rw add-one (drop-cons steps i d within)

-- where the steps that are left lead is what was looked for
abbrev pub IsReachedBy : List ℕ → Rows → Spot → List PlainStep → (Spot → Type 0) → Type 0
IsReachedBy b S p plain W = (path : List Step) (x : Spot) → AreSteps plain path → Reaches b S p path x → W x

module _ (S : Rows) (p : Spot) (c : PlainStep) (cs : List PlainStep) where
  pub reaches_more : (b : List ℕ) (W : Spot → Type 0) (s : Step) (q : Spot) → step_of c ≡ Some s → Leads b S p s q → IsReachedBy b S p (c ∷ cs) W → IsReachedBy b S q cs W
  reaches_more b W s q e l by = λ path x are reach. by (s ∷ path) x (e, are) (q, l, reach)

  pub fit_more : (s : Step) (q : Spot) → step_of c ≡ Some s → KindsGoOn S p s q → FitHere S p (c ∷ cs) → FitHere S q cs
  fit_more s q e on ([], kind, are, is, fits) = absurd are
  fit_more s q e on (s' ∷ path, kind, are, is, fits) =
      let found : step_of c ≡ Some s' = are.0 in
      let same : s' ≡ s = cc in
      (path, fits.0, are.1, on kind fits.0 is (subst (λ v. next_kind S kind v ≡ Some fits.0) same fits.1), fits.2)

-- one step more stands in front of the room
pub one_written : (path : List Step) (first room front : List PlainStep) (i : ℕ) (d : Step) (c none : PlainStep) → i < length path → i < length first
    → AreSteps front (take i path) → room ≡ front ++ drop i first → step_of c ≡ Some (get_or path i d)
    → (front' : List PlainStep) × AreSteps front' (take (i + 1) path) × (set room i c ≡ front' ++ drop (i + 1) first)
one_written path first room front i d c none within there are is e =
    let R : PlainStep → Step → Type 0 = λ p s. step_of p ≡ Some s in
    let same = AllZip-long R front (take i path) are in
    let taken : length (take i path) ≡ i = length-take-le i path (omega arith) in
    let long : length front ≡ i = omega arith in
    let rest = drop (i + 1) first in
    let cons = next_of first i none there in (
      front ++ c ∷ [],
      rw (take_more path i d within) (all_zipped_more R front (take i path) c (get_or path i d) are e),
      ap (λ r. set r i c) (is ∙ ap (λ r. front ++ r) cons) ∙ set_at front (get_or first i none) rest c i long ∙ sym (append_assoc front (c ∷ []) rest),
    )
