-- The place of the first item that passes a test.
use Rattle.std.proofs.Common.{◌≡◌, ℕ, ◌<◌, ◌≤◌, inl, inr, Bool, true, false, not, cond, ◌+◌, List, [], ◌∷◌, length, get_or, map, Option, Some, None, refl, sym, ◌∙◌, ap, arith, position}
use Rattle.std.proofs.lemmas.{List.length-map, List.Quantifiers.position-Some, List.Sums.fails_before_first, Grind.common_steps}
use Rattle.std.specs.List.{position_or_len}
use Rattle.fb_schema.proofs.{Numbers.le_or_lt, Numbers.lt_or_eq, Numbers.slice_get_some, Numbers.get_or_default, Search.not_true}

-- the first that passes
pub first_position : {X : Type 0} (p : X → Bool) (xs : List X) (k : ℕ) (d : X) → k < length xs → p (get_or xs k d) ≡ true → ((j : ℕ) (e : X) → j < k → p (get_or xs j e) ≡ false) → position p xs ≡ Some k
first_position p xs k d lt passes before =
    let i = position_or_len p xs in
    let upto : i ≤ k = elim (le_or_lt i k) [ inl le ↦ le | inr beyond ↦ absurd (let w : true ≡ false = sym passes ∙ fails_before_first p xs k d beyond in cc) ] in
    let at : position p xs ≡ Some i = let inside : i < length xs = omega arith in grind (arith, common_steps) in
    at ∙ ap Some (elim (lt_or_eq i k upto) [ inl low ↦ absurd (let w : true ≡ false = sym (position-Some p xs i d at).1 ∙ before i d low in cc) | inr same ↦ same ])

-- the one that passes
pub found_position : {X : Type 0} (p : X → Bool) (xs : List X) (k : ℕ) (d : X) → k < length xs → p (get_or xs k d) ≡ true → ((j : ℕ) → j < length xs → p (get_or xs j d) ≡ true → j ≡ k) → position p xs ≡ Some k
found_position p xs k d lt passes only = first_position p xs k d lt passes (λ j e low. not_true (p (get_or xs j e)) (λ h. let w = only j (omega arith) (ap p (get_or_default xs j d e (omega arith)) ∙ h) in omega arith))

pub no_position : {X : Type 0} (p : X → Bool) (xs : List X) → ((j : ℕ) (d : X) → j < length xs → p (get_or xs j d) ≡ true → ⊥) → position p xs ≡ None
no_position p xs never = go (position p xs) refl where
  go : (o : Option ℕ) → position p xs ≡ o → o ≡ None
  go None e = refl
  go (Some i) e = absurd (let inside : i < length xs = grind (arith, common_steps) in let x = slice_get_some xs i inside in let w = position-Some p xs i x.0 e in never i x.0 w.0 w.1)

-- the first of a mapped list that passes stands where the first does whose image passes
len_mapped : {X Y : Type 0} (f : X → Y) (p : Y → Bool) (xs : List X) → position_or_len p (map f xs) ≡ position_or_len (λ x. p (f x)) xs
len_mapped f p [] = refl
len_mapped f p (x ∷ xs) = ap (λ n. cond (not (p (f x))) (1 + n) 0) (len_mapped f p xs)

pub position_mapped : {X Y : Type 0} (f : X → Y) (p : Y → Bool) (xs : List X) → position p (map f xs) ≡ position (λ x. p (f x)) xs
position_mapped f p xs = rw (len_mapped f p xs) (rw length-map refl)

-- one item more of which a test answers the same
pub below_same : {X : Type 0} (p : X → Bool) (xs : List X) (i : ℕ) (d : X) (b : Bool) → i < length xs → ((k : ℕ) (e : X) → k < i → p (get_or xs k e) ≡ b) → p (get_or xs i d) ≡ b → (k : ℕ) (e : X) → k < i + 1 → p (get_or xs k e) ≡ b
below_same p xs i d b lt before here k e low = elim (lt_or_eq k i (omega (arith, low))) [ inl less ↦ before k e less | inr same ↦ ap (λ n. p (get_or xs n e)) same ∙ ap p (get_or_default xs i e d lt) ∙ here ]
