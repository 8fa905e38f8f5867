-- A list that is added behind others leaves them as they are.
use Rattle.std.proofs.Common.{◌≡◌, ◌≤◌, ◌<◌, ◌-◌, ◌+◌, ◌^◌, ℕ, [], ◌∷◌, ◌++◌, map, length, List, take, drop, refl, ◌∙◌, ap, arith, length-append, subst, sym, Bool, true, false, if◌then◌else◌, length-drop, All}
use Rattle.std.proofs.lemmas.List.{map-append, drop-append-le, take-append-le, drop_at, take_all, Elements.All-head, Elements.All-tail, Elements.All-push}
use Rattle.fb_schema.specs.Flat.{part, IsPart, AreWithin}

kept : {T : Type 0} (xs ys : List T) (r : ℕ × ℕ) → (r.0 ≤ r.1) × (r.1 ≤ length xs) → part (xs ++ ys) r ≡ part xs r
kept xs ys r h =
    let long = length-drop r.0 xs in
    ap (take (r.1 - r.0)) (drop-append-le r.0 xs ys (omega arith)) ∙ take-append-le (r.1 - r.0) (drop r.0 xs) ys (omega arith)

last : {T : Type 0} (xs ys : List T) → part (xs ++ ys) (length xs, length (xs ++ ys)) ≡ ys
last xs ys =
    ap (take (length (xs ++ ys) - length xs)) (drop_at xs ys (length xs) refl)
    ∙ take_all (length (xs ++ ys) - length xs) ys (omega (arith, length-append xs ys))

-- what is made of owners and their parts, after one is added
module _ {O T Z : Type 0} (range : O → ℕ × ℕ) (make : O → List T → Z) where
  IsHeld : ℕ → O → Type 0
  IsHeld n o = ((range o).0 ≤ (range o).1) × ((range o).1 ≤ n)

  all_kept : (xs ys : List T) (os : List O) → All (IsHeld (length xs)) os → map (λ o. make o (part (xs ++ ys) (range o))) os ≡ map (λ o. make o (part xs (range o))) os
  unfolding IsHeld
  all_kept xs ys [] h = refl
  all_kept xs ys (o ∷ os) h = λ i. make o (kept xs ys (range o) (All-head (IsHeld (length xs)) o os h) i) ∷ all_kept xs ys os (All-tail (IsHeld (length xs)) o os h) i

  pub pushed : (xs ys new : List T) (os owners : List O) (o : O) → All (λ o. ((range o).0 ≤ (range o).1) × ((range o).1 ≤ length xs)) os → new ≡ xs ++ ys → owners ≡ os ++ o ∷ [] → range o ≡ (length xs, length new)
      → map (λ o. make o (part new (range o))) owners ≡ map (λ o. make o (part xs (range o))) os ++ make o ys ∷ []
  unfolding IsHeld
  pushed xs ys new os owners o within n r is =
      ap (map (λ o. make o (part new (range o)))) r
      ∙ ap (λ zs. map (λ o. make o (part zs (range o))) (os ++ o ∷ [])) n
      ∙ map-append (λ o. make o (part (xs ++ ys) (range o))) os (o ∷ [])
      ∙ ap (λ zs. zs ++ make o (part (xs ++ ys) (range o)) ∷ []) (all_kept xs ys os within)
      ∙ ap (λ z. map (λ o. make o (part xs (range o))) os ++ make o z ∷ []) (ap (part (xs ++ ys)) is ∙ ap (λ m. part (xs ++ ys) (length xs, m)) (ap length n) ∙ last xs ys)

-- the ranges of owners, after one is added
pub parts_step : {O T : Type 0} (range : O → ℕ × ℕ) (xs ys new : List T) (os owners : List O) (o : O) → All (λ o. IsPart (length xs) (range o)) os → new ≡ xs ++ ys → owners ≡ os ++ o ∷ [] → range o ≡ (length xs, length new) → length ys < 2 ^ 31
    → All (λ o. IsPart (length new) (range o)) owners
parts_step range xs ys new os owners o parts n r is few =
    let long : length new ≡ length xs + length ys = ap length n ∙ length-append xs ys in
    let last : IsPart (length new) (length xs, length new) = record { ordered = omega arith; within = omega arith; few = omega arith } in
    subst (All (λ o. IsPart (length new) (range o))) (sym r)
    (All-push (λ o. IsPart (length new) (range o)) os o (λ k d lt. let p = parts k d lt in record { ordered = p.ordered; within = omega (arith, p.within); few = p.few }) (subst (IsPart (length new)) (sym is) last))

-- the ranges are within the rows, whether the last one could be added or not
pub within_tried : {T : Type 0} (xs ys new : List T) (rs ranges : List (ℕ × ℕ)) (start end : ℕ) (b : Bool) → AreWithin xs rs → new ≡ xs ++ ys → ranges ≡ (if b then rs ++ (start, end) ∷ [] else rs) → start ≡ length xs → end ≡ length new → AreWithin new ranges
within_tried xs ys new rs ranges start end b within n r s e = subst (AreWithin new) (sym r) (go b) where
  long : length new ≡ length xs + length ys
  long = ap length n ∙ length-append xs ys

  wider : AreWithin new rs
  wider k d lt = let w = within k d lt in (w.0, omega (arith, w.1, long))

  go : (b : Bool) → AreWithin new (if b then rs ++ (start, end) ∷ [] else rs)
  go true = All-push (λ r. (r.0 ≤ r.1) × (r.1 ≤ length new)) rs (start, end) wider (omega (arith, long), omega arith)
  go false = wider
