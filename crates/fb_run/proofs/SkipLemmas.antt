-- The bytes at the beginning of an input that are left out, read piece by piece.
use Rattle.std.proofs.Common.{◌≡◌, ◌∙◌, ℕ, ◌+◌, ◌-◌, List, ◌++◌, ap, arith, drop, inl, inr, length, sym}
use Rattle.std.proofs.{Math.Seq.drop-append-add, lemmas.Bool.cases_lt, lemmas.List.drop-append-le, lemmas.List.drop_all, lemmas.List.length-append}
use Rattle.fb_run.specs.{Job.Job, Job.checked_in, declared.skip.Skip.Skip}

-- what stands behind the first bytes of two texts
drop_both : (n : ℕ) (xs ys : List ℕ) → drop n (xs ++ ys) ≡ drop n xs ++ drop (n - length xs) ys
drop_both n xs ys = elim (cases_lt n (length xs)) [
  | inl under ↦
      let none : 0 ≡ n - length xs = omega (arith, under) in
      drop-append-le n xs ys (omega (arith, under)) ∙ ap (λ k. drop n xs ++ drop k ys) none
  | inr over ↦
      let more : n ≡ length xs + (n - length xs) = omega (arith, over) in
      ap (λ k. drop k (xs ++ ys)) more ∙ drop-append-add xs ys (n - length xs) ∙ ap (λ l. l ++ drop (n - length xs) ys) (sym (drop_all n xs over))
]

-- with these bytes read so many of them are left
pub record LeavesOut (job : Job) (bytes : List ℕ) (skip : Skip) : Type 0 where
  pub all : skip.all ≡ job.terms.skip
  pub left : skip.left ≡ job.terms.skip - length bytes

-- a piece more, by what of it stands behind them
pub checked_more : (job : Job) (bytes piece more : List ℕ) (skip : Skip) → LeavesOut job bytes skip → more ≡ drop skip.left piece → checked_in job (bytes ++ piece) ≡ checked_in job bytes ++ more
checked_more job bytes piece more skip out behind =
    drop_both job.terms.skip bytes piece ∙ ap (λ (l : List ℕ). checked_in job bytes ++ l) (sym (behind ∙ ap (λ n. drop n piece) out.left))

pub skips_more : (job : Job) (bytes piece : List ℕ) (skip skip' : Skip) → LeavesOut job bytes skip → skip'.all ≡ skip.all → skip'.left ≡ skip.left - length piece → LeavesOut job (bytes ++ piece) skip'
skips_more job bytes piece skip skip' out alike less = record { all = alike ∙ out.all; left = omega (arith, less, out.left, length-append bytes piece) }
