-- The keys of a list, one after another, and the test whether an item stood before.
use Rattle.std.proofs.Common.{◌≡◌, ℕ, suc, ◌+◌, ◌<◌, Bool, true, false, ◌||◌, List, [], ◌∷◌, ◌++◌, length, slice_get, get_or, take, map, Option, Some, None, refl, sym, ◌∙◌, ap, subst, arith, zero-add, Decides, Ordering, Equal}
use Rattle.fb_schema.proofs.{Search.not_true, Numbers.get_or_default, Numbers.slice_get_some, Numbers.neither_below, Numbers.same_test}
use Rattle.std.proofs.lemmas.List.{get_or-take, length-take-le, map-append, get_or-map, length-map, take-map, Folds.Any-from_list_any, Folds.list_any-from_Any}
use Rattle.std.proofs.lemmas.{Option.slice_get_within, Option.get_or_from_slice_get, Bool.Decides.Decides-eqb, Grind.take_at_read}
use Rattle.std.specs.List.{list_any}
use Rattle.fb_schema.specs.{Sorting.numbered, Sorting.IsAgain, Sorting.IsFirstAgain, Demands.stands_before, Demands.is_at}

numbered-push : {K : Type 0} (keys : List K) (n : ℕ) (key : K) → numbered n (keys ++ key ∷ []) ≡ numbered n keys ++ (key, n + length keys) ∷ []
numbered-push [] n key = ap (λ m. (key, m) ∷ []) (let w : n ≡ n + 0 = omega arith in w)
numbered-push (k ∷ ks) n key = ap (λ ys. (k, n) ∷ ys) (numbered-push ks (suc n) key ∙ ap (λ m. numbered (suc n) ks ++ (key, m) ∷ []) (let w : suc n + length ks ≡ n + suc (length ks) = omega arith in w))

-- a step of the loops that number keys
pub numbered_more : {X K : Type 0} (key : X → K) (xs : List X) (i : ℕ) (d : X) (es : List (K × ℕ)) → i < length xs → es ≡ numbered 0 (map key (take i xs)) → es ++ (key (get_or xs i d), i) ∷ [] ≡ numbered 0 (map key (take (i + 1) xs))
numbered_more key xs i d es lt h =
    let t = (take_at_read xs i d lt).1 in
    let long : length (map key (take i xs)) ≡ i = rw length-map (length-take-le i xs (omega arith)) in
    ap (λ ys. ys ++ (key (get_or xs i d), i) ∷ []) h
    ∙ ap (λ m. numbered 0 (map key (take i xs)) ++ (key (get_or xs i d), m) ∷ []) (sym (zero-add i) ∙ ap (λ m. 0 + m) (sym long))
    ∙ sym (numbered-push (map key (take i xs)) 0 (key (get_or xs i d)))
    ∙ ap (numbered 0) (sym (map-append key (take i xs) (get_or xs i d ∷ [])) ∙ ap (map key) (sym t))

pub list_any-map : {X Y : Type 0} (p : Y → Bool) (f : X → Y) (xs : List X) → list_any p (map f xs) ≡ list_any (λ x. p (f x)) xs
list_any-map p f [] = refl
list_any-map p f (x ∷ xs) = ap (λ b. p (f x) || b) (list_any-map p f xs)

-- a key of a list stands again behind one that is like it
pub again_at : {K : Type 0} (R : K → K → Ordering) (keys : List K) (i j : ℕ) (d : K) → i < j → j < length keys → R (get_or keys i d) (get_or keys j d) ≡ Equal → IsAgain R keys j
again_at R keys i j d lt within e = record { earlier = i; before = lt; within = within; alike = λ x. rw (get_or_default keys i x d (omega arith), get_or_default keys j x d within) e }

-- rows in memory with their keys, and how the definitions see them: two are the same where their keys are alike
module _ {X Y K : Type 0} (R : K → K → Ordering) (key : X → K) (f : X → Y) (same : Y → Y → Bool) (agrees : (a b : X) → Decides (same (f a) (f b)) (R (key a) (key b) ≡ Equal)) (xs : List X) (p : ℕ) (x : X) (at : slice_get xs p ≡ Some x) where
  within : p < length xs
  within = slice_get_within xs p x at

  plain : stands_before same (map f xs) p (f x) ≡ list_any (λ a. same (f a) (f x)) (take p xs)
  plain = ap (list_any (λ y. same y (f x))) (take-map f p xs) ∙ list_any-map (λ y. same y (f x)) f (take p xs)

  pub again_from_test : stands_before same (map f xs) p (f x) ≡ true → IsAgain R (map key xs) p
  again_from_test h =
      let a = Any-from_list_any (λ a. same (f a) (f x)) (take p xs) (sym plain ∙ h) in
      let k = a.0 in
      let long = length-take-le p xs (let w = within in omega arith) in
      let lower : k < p = omega (arith, a.2) in
      let here : get_or xs k a.1 ≡ a.1 = sym (get_or-take p xs k a.1 lower) ∙ a.3 in
      again_at R (map key xs) k p (key x) lower (rw length-map within)
      (ap (λ z. R z (get_or (map key xs) p (key x))) (get_or-map key xs k a.1 (key x) (let w = within in omega arith) ∙ ap key here)
      ∙ ap (R (key a.1)) (get_or-map key xs p x (key x) within ∙ ap key (get_or_from_slice_get xs p x x at)) ∙ (agrees a.1 x).0 a.4)

  pub test_from_again : IsAgain R (map key xs) p → stands_before same (map f xs) p (f x) ≡ true
  test_from_again a =
      let k = a.earlier in
      let w = within in
      let lower = a.before in
      let y = get_or xs k x in
      let long = length-take-le p xs (omega arith) in
      let here : get_or (take p xs) k y ≡ y = get_or-take p xs k y lower ∙ get_or_default xs k y x (omega arith) in
      let d = key x in
      let alike : R (key y) (key x) ≡ Equal = ap (λ z. R z (key x)) (sym (get_or-map key xs k x d (omega arith))) ∙ ap (R (get_or (map key xs) k d)) (sym (get_or-map key xs p x d within ∙ ap key (get_or_from_slice_get xs p x x at))) ∙ a.alike d in
      plain ∙ list_any-from_Any (λ a. same (f a) (f x)) (take p xs) (k, y, omega arith, here, (agrees y x).1 alike)

  -- what the first place again tells of this one, where no earlier place is again
  pub is_at_test : (first : Option ℕ) → IsFirstAgain R (map key xs) first → ((q : ℕ) → q < p → IsAgain R (map key xs) q → ⊥) → is_at first p ≡ stands_before same (map f xs) p (f x)
  is_at_test None h none = sym (not_true _ (λ t. h p (again_from_test t)))
  is_at_test (Some k) h none = same_test _ _ (λ e. test_from_again (subst (IsAgain R (map key xs)) ((Decides-eqb k p).0 e) h.0))
      (λ t. (Decides-eqb k p).1 (neither_below k p (λ lt. none k lt h.0) (λ lt. h.1 p lt (again_from_test t))))

-- no key stands again where the test says that no item like the one there stands before it
pub never_again : {X Y K : Type 0} (R : K → K → Ordering) (key : X → K) (f : X → Y) (same : Y → Y → Bool) (agrees : (a b : X) → Decides (same (f a) (f b)) (R (key a) (key b) ≡ Equal)) (xs : List X) (q : ℕ) → IsAgain R (map key xs) q
    → ((x : X) → slice_get xs q ≡ Some x → stands_before same (map f xs) q (f x) ≡ false) → ⊥
never_again R key f same agrees xs q a none =
    let here = slice_get_some xs q (rw length-map at a.within) in
    let w : true ≡ false = sym (test_from_again R key f same agrees xs q here.0 here.1 a) ∙ none here.0 here.1 in cc
