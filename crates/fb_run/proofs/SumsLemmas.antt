-- Sums over messages, in any order.
use Rattle.std.proofs.Common.{All, rules, zero, suc, ◌≡◌, ℕ, ◌+◌, ◌<◌, ◌≤◌, List, [], ◌∷◌, ◌++◌, length, drop, get_or, refl, ap, arith, inl, inr, append_assoc, length-append}
use Rattle.std.specs.Prelude.{decimal, slice_index}
use Rattle.std.proofs.lemmas.{Fmt.length-decimal-le, Bool.cases_lt, List.drop_more, List.get_or_past, List.Elements.All-set, List.Elements.All-weaker}
use Rattle.fb_run.specs.{Job.Verdict, Sums.IsBounded, Sums.no_tally, Sums.one_more, Sums.reason_part, Sums.reasons_from, Sums.sum_of_reads, Sums.tally_with}
use Rattle.fb_run.specs.declared.{options.LineForm.LineForm, tally.Tally.Tally}

-- one more here and there
one_both : (i j : ℕ) (l : List ℕ) → one_more i (one_more j l) ≡ one_more j (one_more i l)
one_both i j [] = refl
one_both zero zero (x ∷ l) = refl
one_both (suc i) (suc j) (x ∷ l) = ap (λ (t : List ℕ). x ∷ t) (one_both i j l)
one_both _ _ (x ∷ l) = refl

reads_both : (a b c : ℕ) → sum_of_reads (sum_of_reads c b) a ≡ sum_of_reads (sum_of_reads c a) b
reads_both a b c = omega arith

-- it's the same which of two messages is counted first
pub with_both : (x y : List ℕ) (v w : Verdict) (t : Tally) → tally_with x v (tally_with y w t) ≡ tally_with y w (tally_with x v t)
with_both x y v w t = grind (arith, reads_both, one_both)

-- nothing is within any bounds
pub nothing_bounded : IsBounded no_tally
nothing_bounded = record { places = refl; reasons = search rules; bytes = omega arith; tables = omega arith }

-- every count is at most that of the noes, also with one more here
pub count_at : (i k : ℕ) (l : List ℕ) → All (λ n. n ≤ k) l → i < length l → slice_index l i ≤ k
count_at i k l each under = each i 0 under

pub one_no_more : (i k : ℕ) (l : List ℕ) → All (λ n. n ≤ k) l → All (λ n. n ≤ k + 1) (one_more i l)
one_no_more i k l each =
    let small : slice_index l i ≤ k = elim (cases_lt i (length l)) [ inl under ↦ each i 0 under | inr over ↦ rw (get_or_past l i 0 over) (omega arith) ] in
    All-set (λ n. n ≤ k + 1) l i (slice_index l i + 1) (omega arith) (All-weaker (λ n. n ≤ k) (λ n. n ≤ k + 1) (λ n few. omega arith) l each)

-- a reason's number and how often it was given stand in front of the rest
pub in_front : (letter number sign count rest : List ℕ) → letter ++ (number ++ (sign ++ (count ++ rest))) ≡ (letter ++ (number ++ (sign ++ count))) ++ rest
in_front letter number sign count rest = simp append_assoc

-- a reason stands in front of those behind it
pub one_reason_more : (form : LineForm) (counts rest line line' : List ℕ) (place next : ℕ) → next ≡ place + 1 → place < length counts → line ≡ reasons_from form (next + 1) (drop next counts) rest
    → line' ≡ reason_part form (place + 1) (get_or counts place 0) line → line' ≡ reasons_from form (place + 1) (drop place counts) rest
one_reason_more form counts rest line line' place next after inside is more = rw (more, is, after, drop_more counts place 0 inside)

-- a reason's number and how often it was given are short
pub reason_short : (line counted signed numbered lettered : List ℕ) (number : ℕ) → number < 100 → length counted ≤ length line + 20 → length signed ≤ 2 + length counted
    → numbered ≡ decimal number ++ signed → length lettered ≤ 3 + length numbered → length lettered ≤ length line + 27
reason_short line counted signed numbered lettered number few count sign is letter =
    let digits = length-decimal-le 2 number (omega arith) (omega arith) (omega arith) in
    omega (arith, ap length is, length-append (decimal number) signed)
