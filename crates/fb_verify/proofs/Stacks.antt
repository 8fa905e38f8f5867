-- A stack in a row of frames: what is pushed onto it and popped off it.
use Rattle.std.proofs.Common.{◌≡◌, ℕ, ◌+◌, ◌-◌, ◌≤◌, ◌<◌, List, [], ◌∷◌, ◌++◌, length, take, get_or, sym, ◌∙◌, ap, arith}
use Rattle.std.proofs.Math.ListN.{set, length-set, get_or-append}
use Rattle.std.proofs.lemmas.List.{take_more, take_more_set, take-set, take-append-le, get_or-set_same, get_or-append-add, Sums.sum_by_push}
use Rattle.std.specs.List.{sum_by}

-- the last of the first m
module _ {X : Type 0} (xs : List X) (m : ℕ) (d : X) (some : 0 < m) (room : m ≤ length xs) where
  pub last_is : take m xs ≡ take (m - 1) xs ++ get_or xs (m - 1) d ∷ []
  last_is = let e : m - 1 + 1 ≡ m = omega arith in rw e at (take_more xs (m - 1) d (omega arith))

  pub sum_last : (f : X → ℕ) → sum_by f (take m xs) ≡ sum_by f (take (m - 1) xs) + f (get_or xs (m - 1) d)
  sum_last f = ap (sum_by f) last_is ∙ sum_by_push f (take (m - 1) xs) (get_or xs (m - 1) d)

-- A row in two parts, of which the first ends with the frame that is written.
module _ {X : Type 0} (xs low high : List X) (m : ℕ) (y : X) (parts : xs ≡ low ++ high) (front : length low ≡ m + 1) where
  within : m < length (set low m y)
  within = omega (arith, length-set low m y, front)

  front_kept : take m low ≡ take m xs
  front_kept = sym (take-append-le m low high (omega (arith, front))) ∙ ap (take m) (sym parts)

  -- it was the same in the whole row
  pub top_is : (d : X) → get_or low m d ≡ get_or xs m d
  top_is d = sym (get_or-append low high d m (omega (arith, front))) ∙ ap (λ zs. get_or zs m d) (sym parts)

  -- where the second part was written, too
  module _ (other : List X) (d : X) where
    pub below_joined : take m (set low m y ++ other) ≡ take m xs
    below_joined = take-append-le m (set low m y) other (omega (arith, within)) ∙ take-set low m y ∙ front_kept

    pub grown_joined : take (m + 1) (set low m y ++ other) ≡ take m xs ++ y ∷ []
    grown_joined =
        take-append-le (m + 1) (set low m y) other (omega (arith, within)) ∙ take_more_set low m y (omega (arith, front)) ∙ ap (λ zs. zs ++ y ∷ []) front_kept

    pub top_joined : get_or (set low m y ++ other) m d ≡ y
    top_joined = get_or-append (set low m y) other d m within ∙ get_or-set_same low m y d (omega (arith, front))

    pub next_joined : get_or (set low m y ++ other) (m + 1) d ≡ get_or other 0 d
    next_joined = let e : length (set low m y) + 0 ≡ m + 1 = omega (arith, length-set low m y, front) in rw e at (get_or-append-add (set low m y) other 0 d)
