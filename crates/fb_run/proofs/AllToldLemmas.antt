-- Lines after lines.
use Rattle.std.proofs.Common.{◌≡◌, ℕ, ◌+◌, List, [], ◌∷◌, ◌++◌, refl, sym, ap, subst, ◌∙◌, arith}
use Rattle.fb_run.specs.{Job.Job, Job.Verdict, Line.IsTold, AllTold.AreTold, Spot.Before, Spot.IsDue, Spot.at_first, Spot.past, Spot.past_all, Sums.tally_with, Texts.Texts}
use Rattle.fb_run.specs.{Texts.followed, Texts.silent, declared.tally.Tally.Tally}
use Rattle.fb_run.proofs.{SumsLemmas.with_both, TextsLemmas.followed_assoc, TextsLemmas.followed_silent}

-- what stands before so many messages, and then behind these
abbrev before_with : Before → Tally → Before
before_with before tally = record { messages = before.messages + (tally.yes + tally.no); bad = before.bad + tally.no; bytes = before.bytes + tally.bytes }

-- one message more stands before them, or is one of them
one_before : (before : Before) (m : List ℕ) (v : Verdict) (t : Tally) → before_with before (tally_with m v t) ≡ before_with (past before m v) t
one_before before m v t = grind arith

lines_then : (job : Job) (before : Before) (xs : List (List ℕ)) (m : List ℕ) (a line : Texts) (tally : Tally) (v : Verdict)
    → AreTold job before xs a tally → IsDue job (before_with before tally) → IsTold job (before_with before tally) m v line
    → AreTold job before (xs ++ m ∷ []) (followed a line) (tally_with m v tally)
lines_then job before [] m a line tally v (e, none) due is =
    let here : before_with before tally ≡ before = rw none (grind arith) in (
      v,
      line,
      silent,
      tally,
      subst (IsDue job) here due,
      subst (λ (b : Before). IsTold job b m v line) here is,
      ap (λ t. followed t line) e ∙ sym (followed_silent line),
      (refl, none),
      refl,
    )
lines_then job before (x ∷ xs) m a line tally v (w, first, rest, others, due_first, is_first, text, told, sums) due is =
    let here : before_with before tally ≡ before_with (past before x w) others = ap (before_with before) sums ∙ one_before before x w others in (
      w,
      first,
      followed rest line,
      tally_with m v others,
      due_first,
      is_first,
      ap (λ t. followed t line) text ∙ followed_assoc first rest line,
      lines_then job (past before x w) xs m rest line others v told (subst (IsDue job) here due) (subst (λ (b : Before). IsTold job b m v line) here is),
      ap (λ (t : Tally). tally_with m v t) sums ∙ with_both m x v w others,
    )

-- one line more
pub lines_more : (job : Job) (messages : List (List ℕ)) (message : List ℕ) (text line : Texts) (tally tally' : Tally) (verdict : Verdict)
    → tally' ≡ tally_with message verdict tally → AreTold job (at_first job) messages text tally → IsDue job (past_all job tally) → IsTold job (past_all job tally) message verdict line
    → AreTold job (at_first job) (messages ++ message ∷ []) (followed text line) tally'
lines_more job ms m text line tally tally' v sums lines due is =
    let here : before_with (at_first job) tally ≡ past_all job tally = grind arith in
    rw sums (lines_then job (at_first job) ms m text line tally v lines (subst (IsDue job) (sym here) due) (subst (λ (b : Before). IsTold job b m v line) (sym here) is))
