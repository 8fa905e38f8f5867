-- What a run that keeps bad messages makes of all of them.
use Rattle.std.proofs.Common.{◌≡◌, ℕ, ◌∙◌, ◌++◌, List, [], ◌∷◌, Ok, Err, refl, sym, ap, subst, arith, inl, inr}
use Rattle.fb_run.specs.{Line.IsLine, Line.SaidBy, Line.TellsLine, Line.rejected, RejectLaws.RejectsPart, Spot.past, Spot.spot_of, Texts.Texts, Texts.spoken, Texts.to_notes, Texts.to_out}
use Rattle.fb_run.specs.declared.tally.Tally.{Tally}

pub rejects_part : RejectsPart
rejects_part job before [] text tally kept (e, none) = (
  [],
  [],
  (refl, refl),
  ap (λ (t : Texts). t.rejects) e,
  λ filter. ap (λ (t : Texts). t.out) e,
  sym (ap (λ (t : Tally). t.yes) none),
  sym (ap (λ (t : Tally). t.no) none),
)
rejects_part job before (m ∷ ms) text tally kept (Ok found, line, rest, others, due, is, e, told, sums) =
    let more = rejects_part job (past before m (Ok found)) ms rest others kept told in (
      m ∷ more.0,
      more.1,
      inl ((found, is.verdict_is), (more.0, refl, more.2)),
      ap (λ (t : Texts). t.rejects) e ∙ ap (λ (l : List ℕ). l ++ rest.rejects) is.text.1 ∙ more.3,
      λ filter.
          let said : spoken line ≡ to_out m = subst (λ o. SaidBy o (IsLine job (spot_of before m) (Ok found)) m (Ok found) (spoken line)) filter is.text.0 in
          ap (λ (t : Texts). t.out) e ∙ ap (λ (t : Texts). t.out ++ rest.out) said ∙ ap (λ (l : List ℕ). m ++ l) (more.4 filter),
      omega (arith, more.5, ap (λ (t : Tally). t.yes) sums),
      more.6 ∙ sym (ap (λ (t : Tally). t.no) sums),
    )
rejects_part job before (m ∷ ms) text tally kept (Err bad, line, rest, others, due, is, e, told, sums) =
    let more = rejects_part job (past before m (Err bad)) ms rest others kept told in
    let whole : line.rejects ≡ m = subst (λ k. line.rejects ≡ rejected (Err bad) k m) kept is.text.1 in (
      more.0,
      m ∷ more.1,
      inr ((bad, is.verdict_is), (more.1, refl, more.2)),
      ap (λ (t : Texts). t.rejects) e ∙ ap (λ (l : List ℕ). l ++ rest.rejects) whole ∙ ap (λ (l : List ℕ). m ++ l) more.3,
      λ filter.
          let noted : TellsLine (IsLine job (spot_of before m) (Err bad)) to_notes (spoken line) = subst (λ o. SaidBy o (IsLine job (spot_of before m) (Err bad)) m (Err bad) (spoken line)) filter is.text.0 in
          ap (λ (t : Texts). t.out) e ∙ ap (λ (t : Texts). t.out ++ rest.out) noted.2 ∙ more.4 filter,
      more.5 ∙ sym (ap (λ (t : Tally). t.yes) sums),
      omega (arith, more.6, ap (λ (t : Tally). t.no) sums),
    )
