-- What a filter passes on, filtered again.
use Rattle.std.proofs.Common.{◌≡◌, ℕ, ◌+◌, ◌∙◌, ◌++◌, List, [], ◌∷◌, Ok, Err, All, refl, sym, ap, subst, arith, ◌≤◌}
use mathlib.Core.Logic.{inl}
use Rattle.std.proofs.lemmas.List.Elements.{All-head, All-tail}
use Rattle.fb_bytes.specs.{declared.cut.Cut.Cut, Messages.IsMessage, Messages.Splits}
use Rattle.fb_run.specs.{FilterLaws.PassesAgain, Job.Job, Line.IsLine, Line.TellsLine, Line.SaidBy, AllTold.AreTold, Spot.Before, Spot.at_first, Spot.past, Spot.spot_of}
use Rattle.fb_run.specs.{Sums.no_tally, Sums.tally_with, Texts.Texts, Texts.spoken, Texts.to_notes, Texts.to_out, declared.tally.Tally.Tally}
use Rattle.fb_run.specs.declared.options.Mode.TheVariants.{Filter}
use Rattle.fb_run.proofs.Splitting.{empty_partial, splits_one, splits_rest, splits_then}

-- no more messages, and no more bad ones
record IsFewer (j k : Before) : Type 0 where
  messages : j.messages ≤ k.messages
  bad : j.bad ≤ k.bad

-- what was told of messages, as what is told of those that were passed on, wherever both begin, where no more stand before those
again : (job : Job) (cut : Cut) (k j : Before) (messages : List (List ℕ)) (text : Texts) (tally : Tally) → IsFewer j k → job.terms.mode ≡ Filter → All (IsMessage cut) messages → AreTold job k messages text tally
    → (passed : List (List ℕ)) × (good : Tally) × Splits cut text.out passed [] × AreTold job j passed (to_out text.out) good × (good.yes ≡ tally.yes) × (good.no ≡ 0)
again job cut k j [] text tally fewer filter each (e, none) = (
  [],
  no_tally,
  subst (λ (l : List ℕ). Splits cut l [] []) (sym (ap (λ t. t.out) e)) (splits_rest cut [] (inl (empty_partial cut))),
  (ap (λ t. to_out t.out) e, refl),
  sym (ap (λ (t : Tally). t.yes) none),
  refl,
)
again job cut k j (m ∷ ms) text tally fewer filter each (Ok found, line, rest, others, due, is, e, told, sums) =
    let more = again job cut (past k m (Ok found)) (past j m (Ok found)) ms rest others (record { messages = omega (arith, fewer.messages); bad = fewer.bad }) filter (All-tail (IsMessage cut) m ms each) told in
    let line_is : spoken line ≡ to_out m = subst (λ o. SaidBy o (IsLine job (spot_of k m) (Ok found)) m (Ok found) (spoken line)) filter is.text.0 in
    let out_is : text.out ≡ m ++ rest.out = ap (λ t. t.out) e ∙ ap (λ (t : Texts). t.out ++ rest.out) line_is in (
      m ∷ more.0,
      tally_with m (Ok found) more.1,
      subst (λ (l : List ℕ). Splits cut l (m ∷ more.0) []) (sym out_is)
          (splits_then cut m rest.out [] [] (m ∷ []) more.0 (splits_one cut m (All-head (IsMessage cut) m ms each)) more.2),
      (
        Ok found,
        to_out m,
        to_out rest.out,
        more.1,
        record { messages = omega (arith, fewer.messages, due.messages); bad = omega (arith, fewer.bad, due.bad) },
        record { verdict_is = is.verdict_is; text = (subst (λ o. SaidBy o (IsLine job (spot_of j m) (Ok found)) m (Ok found) (to_out m)) (sym filter) refl, refl) },
        ap to_out out_is,
        more.3,
        refl,
      ),
      ap (λ (n : ℕ). n + 1) more.4 ∙ sym (ap (λ (t : Tally). t.yes) sums),
      more.5,
    )
again job cut k j (m ∷ ms) text tally fewer filter each (Err fault, line, rest, others, due, is, e, told, sums) =
    let more = again job cut (past k m (Err fault)) j ms rest others (record { messages = omega (arith, fewer.messages); bad = omega (arith, fewer.bad) }) filter (All-tail (IsMessage cut) m ms each) told in
    let noted : TellsLine (IsLine job (spot_of k m) (Err fault)) to_notes (spoken line) = subst (λ o. SaidBy o (IsLine job (spot_of k m) (Err fault)) m (Err fault) (spoken line)) filter is.text.0 in
    let out_is : text.out ≡ rest.out = ap (λ t. t.out) e ∙ ap (λ (t : Texts). t.out ++ rest.out) noted.2 in (
      more.0,
      more.1,
      subst (λ (l : List ℕ). Splits cut l more.0 []) (sym out_is) more.2,
      subst (λ (l : List ℕ). AreTold job j more.0 (to_out l) more.1) (sym out_is) more.3,
      more.4 ∙ sym (ap (λ (t : Tally). t.yes) sums),
      more.5,
    )

pub passes_again : PassesAgain
passes_again job cut bytes rest messages text tally filter splits told = again job cut (at_first job) (at_first job) messages text tally (record { messages = omega arith; bad = omega arith }) filter splits.each told
