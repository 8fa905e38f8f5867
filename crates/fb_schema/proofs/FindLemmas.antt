-- The one item of a list that passes a test.
use Rattle.std.proofs.Common.{◌≡◌, ℕ, ◌<◌, Bool, true, ◌&&◌, List, [], ◌∷◌, length, get_or, filter, Some, None, refl, ◌∙◌, arith, cond, find, option_and_then, slice_get, position, ap, nat_lt, ◌≤◌}
use Rattle.std.proofs.lemmas.{List.Folds.find_at, Option.slice_get_past, Option.slice_get-get_or, Bool.Decides.nat_tests}
use Rattle.std.specs.List.{position_or_len}
use Rattle.fb_schema.proofs.PositionLemmas.{found_position}

-- to look among those that pass one test is to ask both
pub find_filter : {X : Type 0} (p q : X → Bool) (xs : List X) → find p (filter q xs) ≡ find (λ y. q y && p y) xs
find_filter p q [] = refl
find_filter p q (x ∷ xs) = grind (arith, find_filter p q xs)

-- what is found stands at its position
pub find_by_position : {X : Type 0} (p : X → Bool) (xs : List X) → find p xs ≡ option_and_then (slice_get xs) (position p xs)
find_by_position p xs = find_at p xs ∙ go (position_or_len p xs) (slice_get_past xs (position_or_len p xs)) where
  go : (i : ℕ) → (length xs ≤ i → slice_get xs i ≡ None) → slice_get xs i ≡ option_and_then (slice_get xs) (cond (nat_lt i (length xs)) (Some i) None)
  go i past = grind (arith, nat_tests, past)

pub found_item : {X : Type 0} (p : X → Bool) (xs : List X) (k : ℕ) (d : X) → k < length xs → p (get_or xs k d) ≡ true → ((j : ℕ) → j < length xs → p (get_or xs j d) ≡ true → j ≡ k) → find p xs ≡ Some (get_or xs k d)
found_item p xs k d lt e only = find_by_position p xs ∙ ap (option_and_then (slice_get xs)) (found_position p xs k d lt e only) ∙ slice_get-get_or xs k d lt
