-- Steps of loops over lists of which a function makes others.
use Rattle.std.proofs.Common.{◌≡◌, ◌⊎◌, inl, inr, refl, ℕ, zero, suc, ◌+◌, ◌<◌, List, [], ◌∷◌, ◌++◌, length, get_or, take, map, filter_map, Option, Some, None, Bool, true, false, sym, ◌∙◌, ap, arith}
use Rattle.std.proofs.lemmas.{List.map-append, List.append-nil, List.Elements.filter_map-append, List.Folds.list_any-append, Grind.take_at_read}
use Rattle.std.specs.List.{cons_option, list_any}
use Rattle.std.specs.Prelude.{◌||◌}

-- one of two holds

pub or_by : (a b : Bool) → (a || b) ≡ true → (a ≡ true) ⊎ (b ≡ true)
or_by true b h = inl refl
or_by false b h = inr h

pub or_first : (a b : Bool) → a ≡ true → (a || b) ≡ true
or_first a b h = grind arith

pub or_later : (a b : Bool) → b ≡ true → (a || b) ≡ true
or_later true b h = refl
or_later false b h = h

pub or_false : (a b : Bool) → (a || b) ≡ false → (a ≡ false) × (b ≡ false)
or_false true b h = absurd (grind arith)
or_false false b h = (refl, h)

module _ {X Y : Type 0} (f : X → Y) where
  -- one item more
  pub one_more : (xs : List X) (i : ℕ) (d : X) → i < length xs → map f (take (i + 1) xs) ≡ map f (take i xs) ++ f (get_or xs i d) ∷ []
  one_more xs i d lt = ap (map f) (take_at_read xs i d lt).1 ∙ map-append f (take i xs) (get_or xs i d ∷ [])

  -- no item passes a test
  pub none_yet : (p : Y → Bool) (xs : List X) (i : ℕ) (d : X) → i < length xs → list_any p (map f (take i xs)) ≡ false → p (f (get_or xs i d)) ≡ false → list_any p (map f (take (i + 1) xs)) ≡ false
  none_yet p xs i d lt before now = ap (list_any p) (one_more xs i d lt) ∙ list_any-append p (map f (take i xs)) (f (get_or xs i d) ∷ []) ∙ grind arith

  -- one does
  pub one_does : (p : Y → Bool) (xs : List X) (i : ℕ) (d : X) → i < length xs → p (f (get_or xs i d)) ≡ true → list_any p (map f xs) ≡ true
  one_does p [] i d lt is = absurd (omega arith)
  one_does p (x ∷ xs) zero d lt is = grind arith
  one_does p (x ∷ xs) (suc i) d lt is = let later = one_does p xs i d (omega arith) is in grind arith

  module _ {Z : Type 0} (h : Y → Option Z) where
    -- the items made so far, with what the next one gives
    kept : (xs : List X) (i : ℕ) (d : X) (o : Option Z) → i < length xs → h (f (get_or xs i d)) ≡ o → filter_map h (map f (take (i + 1) xs)) ≡ filter_map h (map f (take i xs)) ++ cons_option o []
    kept xs i d o lt is =
        ap (filter_map h) (one_more xs i d lt) ∙ filter_map-append h (map f (take i xs)) (f (get_or xs i d) ∷ []) ∙ ap (λ o. filter_map h (map f (take i xs)) ++ cons_option o []) is

    pub keeps : (xs : List X) (i : ℕ) (d : X) (old new : List Z) (z : Z) → i < length xs → old ≡ filter_map h (map f (take i xs))
        → new ≡ old ++ z ∷ [] → h (f (get_or xs i d)) ≡ Some z → new ≡ filter_map h (map f (take (i + 1) xs))
    keeps xs i d old new z lt same e is = e ∙ ap (λ zs. zs ++ z ∷ []) same ∙ sym (kept xs i d (Some z) lt is)

    pub leaves_out : (xs : List X) (i : ℕ) (d : X) (old : List Z) → i < length xs → old ≡ filter_map h (map f (take i xs)) → h (f (get_or xs i d)) ≡ None → old ≡ filter_map h (map f (take (i + 1) xs))
    leaves_out xs i d old lt same is = same ∙ sym (append-nil _) ∙ sym (kept xs i d None lt is)
