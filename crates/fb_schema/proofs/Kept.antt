-- Lists of which a function that may answer nothing makes others.
use Rattle.std.proofs.Common.{◌≡◌, ℕ, zero, suc, ◌+◌, ◌≤◌, List, [], ◌∷◌, ◌++◌, length, slice_get, get_or, take, map, filter_map, option_and_then, Option, Some, None, ◌<◌, refl, sym, ◌∙◌, ap, arith}
use Rattle.std.proofs.lemmas.{List.map-append, List.Elements.filter_map-append, Grind.take_at_read}
use Rattle.std.specs.List.{cons_option}

-- the list made is no longer
pub kept_fewer : {X Y : Type 0} (h : X → Option Y) (xs : List X) → length (filter_map h xs) ≤ length xs
kept_fewer h [] = omega arith
kept_fewer h (x ∷ xs) = grind (arith, kept_fewer h xs)

-- an item of it was made of one
pub kept_from : {X Y : Type 0} (h : X → Option Y) (xs : List X) (i : ℕ) (y : Y) → slice_get (filter_map h xs) i ≡ Some y → (x : X) × (h x ≡ Some y)
kept_from h [] i y e = absurd (let w : None ≡ Some y = e in cc)
kept_from {X} {Y} h (x ∷ xs) i y e = go (h x) refl i (λ j f. kept_from h xs j y f) e where
  go : (o : Option Y) → h x ≡ o → (i : ℕ) → ((j : ℕ) → slice_get (filter_map h xs) j ≡ Some y → (z : X) × (h z ≡ Some y)) → slice_get (cons_option o (filter_map h xs)) i ≡ Some y → (z : X) × (h z ≡ Some y)
  go None is i later e = later i e
  go (Some z) is zero later e = (x, is ∙ e)
  go (Some z) is (suc i) later e = later i e

-- something is made of each item
abbrev pub AreKept : {X Y : Type 0} → (X → Option Y) → List X → Type 0
AreKept {X} {Y} h xs = (i : ℕ) (x : X) → slice_get xs i ≡ Some x → (y : Y) × (h x ≡ Some y)

-- then the list made is as long
pub kept_long : {X Y : Type 0} (h : X → Option Y) (xs : List X) → AreKept h xs → length (filter_map h xs) ≡ length xs
kept_long h [] all = refl
kept_long h (x ∷ xs) all = ap (λ o. length (cons_option o (filter_map h xs))) (all 0 x refl).1 ∙ ap suc (kept_long h xs (λ i y e. all (suc i) y e))

-- and has at each place what is made of the item there
pub kept_at : {X Y : Type 0} (h : X → Option Y) (xs : List X) → AreKept h xs → (i : ℕ) → slice_get (filter_map h xs) i ≡ option_and_then h (slice_get xs i)
kept_at h [] all i = refl
kept_at h (x ∷ xs) all zero = let a = all 0 x refl in ap (λ o. slice_get (cons_option o (filter_map h xs)) 0) a.1 ∙ sym a.1
kept_at h (x ∷ xs) all (suc i) = ap (λ o. slice_get (cons_option o (filter_map h xs)) (suc i)) (all 0 x refl).1 ∙ kept_at h xs (λ j y e. all (suc j) y e) i

-- a step of a loop that makes one of each item
pub kept_step : {X Y Z W : Type 0} (f : X → Y) (h : Y → Option Z) (v : W → Z) (xs : List X) (i : ℕ) (d : X) (old new : List W) (w : W) → i < length xs → map v old ≡ filter_map h (map f (take i xs)) → new ≡ old ++ w ∷ [] → h (f (get_or xs i d)) ≡ Some (v w) → map v new ≡ filter_map h (map f (take (i + 1) xs))
kept_step f h v xs i d old new w lt same e r =
    ap (map v) e ∙ map-append v old (w ∷ []) ∙ ap (λ zs. zs ++ v w ∷ []) same ∙ ap (λ o. filter_map h (map f (take i xs)) ++ cons_option o []) (sym r)
    ∙ sym (filter_map-append h (map f (take i xs)) (f (get_or xs i d) ∷ [])) ∙ ap (filter_map h) (sym (map-append f (take i xs) (get_or xs i d ∷ []))) ∙ ap (λ zs. filter_map h (map f zs)) (sym (take_at_read xs i d lt).1)
