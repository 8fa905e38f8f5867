-- What the order of a list of keys says of the keys.
use Rattle.std.proofs.Common.{◌≡◌, ℕ, zero, suc, ◌+◌, ◌-◌, ◌<◌, ◌≤◌, true, false, List, [], ◌∷◌, length, get_or, refl, sym, ◌∙◌, ap, subst, arith, add-zero, zero-add, Option, Some, None, MatchOption, min, max, inl, inr, Contains, swap, Ordering, Equal, IsPermutation}
use Rattle.std.proofs.lemmas.{Cmp.nat_cmp_total, Cmp.then_total, Cmp.on_total, List.Elements.Contains-get_or, List.Edits.swapped_from_swap, List.Edits.length-swap}
use Rattle.std.proofs.lemmas.List.Sorted.{sorted_far, ranks_by, Contains-permutation, IsPermutation-sym, IsPermutation-keeps}
use Rattle.std.specs.{Cmp.IsTotalOrder, Cmp.IsStrictWeakOrder, Ordering.nat_cmp, Ordering.ordering_then, Ordering.is_lt, Ordering.ordering_reverse}
use Rattle.fb_schema.specs.Sorting.{entry_cmp, numbered, IsOrderOf, IsAgain, IsFirstAgain}
use Rattle.fb_schema.proofs.Numbers.{lt_or_eq, le_or_lt, get_or_default, slice_get_some}

pub get_or-numbered : {K : Type 0} (keys : List K) (n i : ℕ) (d : K × ℕ) → i < length keys → get_or (numbered n keys) i d ≡ (get_or keys i d.0, n + i)
get_or-numbered [] n i d h = absurd (omega arith)
get_or-numbered (k ∷ ks) n zero d h = ap (λ m. (k, m)) (sym (add-zero n))
get_or-numbered (k ∷ ks) n (suc i) d h = get_or-numbered ks (suc n) i d (omega arith) ∙ ap (λ m. (get_or ks i d.0, m)) (omega arith)

pub length-numbered : {K : Type 0} (keys : List K) (n : ℕ) → length (numbered n keys) ≡ length keys
length-numbered [] n = refl
length-numbered (k ∷ ks) n = ap suc (length-numbered ks (suc n))

-- each item has a number of its own
abbrev pub StandOnce : {X : Type 0} → (X → ℕ) → List X → Type 0
StandOnce {X} number xs = (i j : ℕ) (d : X) → i < length xs → j < length xs → number (get_or xs i d) ≡ number (get_or xs j d) → i ≡ j

pub once_permuted : {X : Type 0} (number : X → ℕ) (xs ys : List X) → IsPermutation xs ys → StandOnce number xs → StandOnce number ys
once_permuted number xs ys moved once = IsPermutation-keeps xs (StandOnce number) once (λ l i j p q old a b d la lb e.
    let s = swapped_from_swap l (swap l i j) i j d p q refl in
    let la' : a < length l = rw (length-swap l i j) at la in
    let lb' : b < length l = rw (length-swap l i j) at lb in
    grind (arith, s, old)) ys moved

apart_numbered : {K : Type 0} (keys : List K) → StandOnce (λ (e : K × ℕ). e.1) (numbered 0 keys)
apart_numbered keys i j d p q e =
    let p' : i < length keys = rw length-numbered at p in
    let q' : j < length keys = rw length-numbered at q in
    let a = ap (λ (y : _ × ℕ). y.1) (get_or-numbered keys 0 i d p') in
    let b = ap (λ (y : _ × ℕ). y.1) (get_or-numbered keys 0 j d q') in
    omega (arith, a, b, e)

-- neither key is below the other, where each is one of two ends that are alike
tied_between : (p q x y : Ordering) → p ≡ ordering_reverse q → is_lt (ordering_then p x) ≡ false → is_lt (ordering_then q y) ≡ false → (q ≡ Equal) × (is_lt x ≡ false) × (is_lt y ≡ false)
tied_between p q x y e a b = grind (arith, e, a, b)

not_less : (x y : ℕ) → is_lt (nat_cmp x y) ≡ false → y ≤ x
not_less x y h = grind (arith, h)

-- two neighbours whose keys are alike
abbrev pub Alike : {K : Type 0} → (K → K → Ordering) → List (K × ℕ) → K × ℕ → ℕ → Type 0
Alike R ps d t = R (get_or ps t d).0 (get_or ps (t + 1) d).0 ≡ Equal

-- the least place of a second neighbour of one key, among the first n
abbrev pub IsLeast : {K : Type 0} → (K → K → Ordering) → List (K × ℕ) → ℕ → Option ℕ → Type 0
IsLeast {K} R ps n None = (t : ℕ) (d : K × ℕ) → t + 1 < n → Alike R ps d t → ⊥
IsLeast {K} R ps n (Some k) = ((t : ℕ) × (t + 1 < n) × ((d : K × ℕ) → Alike R ps d t × ((get_or ps (t + 1) d).1 ≡ k))) × ((t : ℕ) (d : K × ℕ) → t + 1 < n → Alike R ps d t → k ≤ (get_or ps (t + 1) d).1)

pub least_apart : {K : Type 0} (R : K → K → Ordering) (ps : List (K × ℕ)) (n : ℕ) (first : Option ℕ) → 0 < n → ((d : K × ℕ) → Alike R ps d (n - 1) → ⊥) → IsLeast R ps n first → IsLeast R ps (n + 1) first
least_apart R ps n None pos never h = λ t d lt a. elim (lt_or_eq t (n - 1) (omega arith)) [ inl b ↦ h t d (omega arith) a | inr e ↦ never d (subst (Alike R ps d) e a) ]
least_apart R ps n (Some k) pos never h =
    ((h.0.0, omega (arith, h.0.1), h.0.2), λ t d lt a. elim (lt_or_eq t (n - 1) (omega arith)) [ inl b ↦ h.1 t d (omega arith) a | inr e ↦ absurd (never d (subst (Alike R ps d) e a)) ])

pub least_alike : {K : Type 0} (R : K → K → Ordering) (ps : List (K × ℕ)) (n m place : ℕ) (first : Option ℕ) → 0 < n → ((d : K × ℕ) → Alike R ps d (n - 1)) → ((d : K × ℕ) → place ≡ (get_or ps n d).1) → MatchOption first (m ≡ place) (λ b. m ≡ min b place) → IsLeast R ps n first → IsLeast R ps (n + 1) (Some m)
least_alike R ps n m place None pos a e is h =
    let same : n - 1 + 1 ≡ n = omega arith in (
      (n - 1, omega arith, λ d. (a d, ap (λ i. (get_or ps i d).1) same ∙ sym (e d) ∙ sym is)),
      λ t d lt b. elim (lt_or_eq t (n - 1) (omega arith)) [ inl c ↦ absurd (h t d (omega arith) b) | inr c ↦ (let w : t + 1 ≡ n = omega arith in let v = ap (λ i. (get_or ps i d).1) w in let u = e d in omega arith) ],
    )
least_alike R ps n m place (Some k) pos a e is h =
    let same : n - 1 + 1 ≡ n = omega arith in (
      elim (le_or_lt k place) [
        | inl c ↦ (h.0.0, omega (arith, h.0.1), λ d. ((h.0.2 d).0, (h.0.2 d).1 ∙ (let w : k ≡ m = omega arith in w)))
        | inr c ↦ (n - 1, omega arith, λ d. (a d, ap (λ i. (get_or ps i d).1) same ∙ sym (e d) ∙ (let w : place ≡ m = omega arith in w)))
      ],
      λ t d lt b. elim (lt_or_eq t (n - 1) (omega arith)) [ inl c ↦ (let w = h.1 t d (omega arith) b in omega arith) | inr c ↦ (let w : t + 1 ≡ n = omega arith in let v = ap (λ i. (get_or ps i d).1) w in let u = e d in omega arith) ],
    )

-- how two neighbours that were read compare
pub neighbours : {K : Type 0} (R : K → K → Ordering) (ps : List (K × ℕ)) (n : ℕ) (x y : K × ℕ) → 0 < n → n < length ps → x ≡ get_or ps (n - 1) x → y ≡ get_or ps n y → (d : K × ℕ) → R (get_or ps (n - 1) d).0 (get_or ps (n - 1 + 1) d).0 ≡ R x.0 y.0
neighbours R ps n x y pos lt e f d =
    let same : n - 1 + 1 ≡ n = omega arith in
    let before : get_or ps (n - 1) d ≡ x = get_or_default ps (n - 1) d x (omega arith) ∙ sym e in
    let here : get_or ps (n - 1 + 1) d ≡ y = ap (λ i. get_or ps i d) same ∙ get_or_default ps n d y lt ∙ sym f in
    ap (λ (p : _ × ℕ). R p.0 (get_or ps (n - 1 + 1) d).0) before ∙ ap (λ (p : _ × ℕ). R x.0 p.0) here

module _ {K : Type 0} (R : K → K → Ordering) (o : IsTotalOrder R) where
  entry_total : IsTotalOrder (entry_cmp R)
  entry_total = then_total (on_total (λ (e : K × ℕ). e.0) o) (on_total (λ (e : K × ℕ). e.1) nat_cmp_total)

  weak : IsStrictWeakOrder (λ (x y : K × ℕ). is_lt (entry_cmp R x y))
  weak = ranks_by entry_total (λ x. x)

  turned : (a b : K) → R a b ≡ Equal → R b a ≡ Equal
  turned a b e = o.antisymm b a ∙ ap ordering_reverse e

  module _ (keys : List K) (order : List (K × ℕ)) (h : IsOrderOf R keys order) where
    -- each key stands in the order
    pub stands : (i : ℕ) (d : K) → i < length keys → (u : ℕ) × (u < length order) × (get_or order u (get_or keys i d, i) ≡ (get_or keys i d, i))
    stands i d lt =
        let e : get_or (numbered 0 keys) i (d, 0) ≡ (get_or keys i d, i) = get_or-numbered keys 0 i (d, 0) lt ∙ ap (λ m. (get_or keys i d, m)) (zero-add i) in
        Contains-permutation _ _ _ h.same (subst (Contains (numbered 0 keys)) e (Contains-get_or (numbered 0 keys) i (d, 0) (rw length-numbered lt)))

    -- what stands in the order is a key
    pub is_key : (u : ℕ) (d : K × ℕ) → u < length order → ((get_or order u d).1 < length keys) × (get_or keys (get_or order u d).1 d.0 ≡ (get_or order u d).0)
    is_key u d lt =
        let x = get_or order u d in
        let c : Contains (numbered 0 keys) x = Contains-permutation _ _ _ (IsPermutation-sym _ _ h.same) (Contains-get_or order u d lt) in
        let k = c.0 in
        let within : k < length keys = rw length-numbered at c.1 in
        let e : (get_or keys k x.0, 0 + k) ≡ x = sym (get_or-numbered keys 0 k x within) ∙ c.2 in
        let place : k ≡ x.1 = sym (zero-add k) ∙ ap (λ (y : K × ℕ). y.1) e in
        let here : x.1 < length keys = omega arith in
        (here, get_or_default keys x.1 d.0 x.0 here ∙ ap (λ m. get_or keys m x.0) (sym place) ∙ ap (λ (y : K × ℕ). y.0) e)

    far : (u v : ℕ) (d : K × ℕ) → u ≤ v → v < length order → is_lt (entry_cmp R (get_or order v d) (get_or order u d)) ≡ false
    far u v d le lt = sorted_far _ weak order h.rises u v d le lt

    -- what stands between two that are alike is like them, in rising places
    between : (a b c : K × ℕ) → R a.0 c.0 ≡ Equal → is_lt (entry_cmp R b a) ≡ false → is_lt (entry_cmp R c b) ≡ false → (R b.0 c.0 ≡ Equal) × (a.1 ≤ b.1) × (b.1 ≤ c.1)
    between a b c same ab bc =
        let back : R b.0 a.0 ≡ ordering_reverse (R c.0 b.0) = o.antisymm b.0 a.0 ∙ ap ordering_reverse (o.congr a.0 c.0 b.0 same) in
        let h = tied_between (R b.0 a.0) (R c.0 b.0) _ _ back ab bc in
        (turned c.0 b.0 h.0, not_less b.1 a.1 h.1, not_less c.1 b.1 h.2)

    less_place : (a b : K × ℕ) → R a.0 b.0 ≡ Equal → a.1 < b.1 → is_lt (entry_cmp R a b) ≡ true
    less_place a b same lt = grind (arith, same, lt)

    apart : StandOnce (λ (e : K × ℕ). e.1) order
    apart = once_permuted (λ (e : K × ℕ). e.1) (numbered 0 keys) order h.same (apart_numbered keys)

    key_at : (u : ℕ) (d : K × ℕ) (e : K) → u < length order → get_or keys (get_or order u d).1 e ≡ (get_or order u d).0
    key_at u d e lt = let k = is_key u d lt in get_or_default keys _ e d.0 k.0 ∙ k.1

    -- of two neighbours that are alike the second stood before
    pub alike_again : (t : ℕ) (d : K × ℕ) → t + 1 < length order → Alike R order d t → IsAgain R keys (get_or order (t + 1) d).1
    alike_again t d lt a =
        let x = get_or order t d in
        let y = get_or order (t + 1) d in
        let b = between x y y a (far t (t + 1) d (omega arith) lt) (far (t + 1) (t + 1) d (omega arith) lt) in
        record {
          earlier = x.1;
          before = elim (lt_or_eq x.1 y.1 b.1) [ inl c ↦ c | inr e ↦ absurd (let same : t ≡ t + 1 = apart t (t + 1) d (omega arith) lt e in omega arith) ];
          within = (is_key (t + 1) d lt).0;
          alike = λ e. ap (λ k. R k (get_or keys y.1 e)) (key_at t d e (omega arith)) ∙ ap (R x.0) (key_at (t + 1) d e lt) ∙ a;
        }

    -- what stood before stands behind a neighbour that is like it
    pub again_alike : (k : ℕ) (d : K × ℕ) → IsAgain R keys k → (t : ℕ) × (t + 1 < length order) × Alike R order d t × ((get_or order (t + 1) d).1 ≡ k)
    again_alike k d a =
        let first = stands a.earlier d.0 (let b = a.before in let w = a.within in omega arith) in
        let second = stands k d.0 a.within in
        let u = first.0 in
        let v = second.0 in
        let x = get_or order u d in
        let y = get_or order v d in
        let x_is : x ≡ (get_or keys a.earlier d.0, a.earlier) = get_or_default order u d _ first.1 ∙ first.2 in
        let y_is : y ≡ (get_or keys k d.0, k) = get_or_default order v d _ second.1 ∙ second.2 in
        let same : R x.0 y.0 ≡ Equal = ap (λ (e : K × ℕ). R e.0 y.0) x_is ∙ ap (λ (e : K × ℕ). R (get_or keys a.earlier d.0) e.0) y_is ∙ a.alike d.0 in
        let x_place = ap (λ (e : K × ℕ). e.1) x_is in
        let y_place = ap (λ (e : K × ℕ). e.1) y_is in
        let up : x.1 < y.1 = let b = a.before in omega arith in
        let rises : u < v = elim (le_or_lt v u) [ inl c ↦ absurd (let w : true ≡ false = sym (less_place x y same up) ∙ far v u d c first.1 in cc) | inr c ↦ c ] in
        let t = v - 1 in
        let is_v : t + 1 ≡ v = omega arith in
        let z = get_or order t d in
        let b = between x z y same (far u t d (omega arith) (let w = second.1 in omega arith)) (far t v d (omega arith) second.1) in
        (t, (let w = second.1 in omega arith), ap (λ i. R z.0 (get_or order i d).0) is_v ∙ b.0, ap (λ i. (get_or order i d).1) is_v ∙ y_place)

    -- the least place behind a neighbour is the first that stood before
    pub least_first : (n : ℕ) (first : Option ℕ) → length order ≤ n → n ≤ max 1 (length order) → IsLeast R order n first → IsFirstAgain R keys first
    least_first n None all most l = λ k a.
        let key = slice_get_some keys k a.within in
        let d : K × ℕ = (key.0, 0) in
        let w = again_alike k d a in l w.0 d (omega (arith, w.1)) w.2
    least_first n (Some k) all most l =
        let t = l.0.0 in
        let low : t + 1 < length order = omega (arith, l.0.1) in
        let d = (slice_get_some order t (omega arith)).0 in
        let here = l.0.2 d in (
          subst (IsAgain R keys) here.1 (alike_again t d low here.0),
          λ j lt a. let w = again_alike j d a in let b = l.1 w.0 d (omega (arith, w.1)) w.2 in let c = w.3 in omega arith,
        )
