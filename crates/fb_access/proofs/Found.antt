-- What is found in a list.
use Rattle.std.proofs.Common.{◌≡◌, ℕ, zero, suc, Bool, true, false, List, [], ◌∷◌, slice_get, Some, None, refl, sym, ◌∙◌, ap, cond, find}

-- what is found is there, and passes
pub found_there : {X : Type 0} (p : X → Bool) (xs : List X) (x : X) → find p xs ≡ Some x → (i : ℕ) × (slice_get xs i ≡ Some x) × (p x ≡ true)
found_there p [] x e = absurd (let w : None ≡ Some x = e in cc)
found_there {X} p (y ∷ ys) x e = go (p y) refl e (found_there p ys x) where
  go : (b : Bool) → p y ≡ b → cond b (Some y) (find p ys) ≡ Some x → (find p ys ≡ Some x → (i : ℕ) × (slice_get ys i ≡ Some x) × (p x ≡ true)) → (i : ℕ) × (slice_get (y ∷ ys) i ≡ Some x) × (p x ≡ true)
  go true h e later = let same : y ≡ x = cc in (0, e, ap p (sym same) ∙ h)
  go false h e later = let l = later e in (suc l.0, l.1, l.2)

-- where something passes, something is found
pub some_found : {X : Type 0} (p : X → Bool) (xs : List X) (i : ℕ) (x : X) → slice_get xs i ≡ Some x → p x ≡ true → (y : X) × (find p xs ≡ Some y)
some_found p [] i x e h = absurd (let w : None ≡ Some x = e in cc)
some_found {X} p (y ∷ ys) i x e h = go (p y) refl i e (λ j f. some_found p ys j x f h) where
  go : (b : Bool) → p y ≡ b → (i : ℕ) → slice_get (y ∷ ys) i ≡ Some x → ((j : ℕ) → slice_get ys j ≡ Some x → (z : X) × (find p ys ≡ Some z)) → (z : X) × (cond b (Some y) (find p ys) ≡ Some z)
  go true q i e later = (y, refl)
  go false q zero e later = absurd (let same : y ≡ x = cc in let w : true ≡ false = sym h ∙ ap p (sym same) ∙ q in cc)
  go false q (suc i) e later = later i e
