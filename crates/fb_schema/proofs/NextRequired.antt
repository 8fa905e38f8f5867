-- The next required field of a table, from a place on.
use Rattle.std.proofs.Common.{◌≡◌, ℕ, ◌+◌, ◌<◌, ◌≤◌, Bool, true, false, not, cond, nat_lt, List, [], ◌∷◌, length, drop, map, get_or, slice_get, set, position, option_map, IsTrue, Option, Some, None, refl, sym, ◌∙◌, ap, subst, arith, length-drop, Bor, drop_of_length-le}
use Rattle.std.specs.{List.position_or_len, Slice.IsItemAt}
use Rattle.std.proofs.{Math.Seq.drop-length, lemmas.Bool.Decides.nat_tests, lemmas.Option.slice_get-get_or, lemmas.Option.slice_get_within, lemmas.Option.get_or_from_slice_get}
use Rattle.std.proofs.lemmas.{List.at_drop_more, List.length-map, List.get_or-map, Grind.common_steps}
use Rattle.fb_schema.specs.{Index.AreNextRequired, Index.AreMatched, Live.Live, Live.live_in, Live.live_fields, Live.next_required_of, Rows.Rows, Rows.Object, Rows.is_table}
use Rattle.fb_schema.specs.Rows.{is_some_table}

abbrev pub is_required : Live → Bool
is_required f = f.required

-- the place of the next required field from place i on, the end where none is
abbrev pub first_from : List Live → ℕ → ℕ
first_from fs i = i + position_or_len is_required (drop i fs)

pub first_at_end : (fs : List Live) (i : ℕ) → i ≡ length fs → i ≡ first_from fs i
first_at_end fs i e = let n = length fs in rw (e, drop-length fs) (let w : n ≡ n + 0 = omega arith in w)

module _ {X : Type 0} (v : X → Live) (xs : List X) (i : ℕ) (d : X) (lt : i < length xs) where
  step : first_from (map v xs) i ≡ i + position_or_len is_required (v (get_or xs i d) ∷ drop (i + 1) (map v xs))
  step = ap (λ n. i + n) (at_drop_more (position_or_len is_required) (map v xs) i (v d) (rw length-map lt)) ∙ ap (λ f. i + position_or_len is_required (f ∷ drop (i + 1) (map v xs))) (get_or-map v xs i d (v d) lt)

  pub first_here : (v (get_or xs i d)).required ≡ true → i ≡ first_from (map v xs) i
  first_here e =
      let w : i ≡ i + 0 = omega arith in
      w ∙ sym (step ∙ ap (λ b. i + cond (not b) (1 + position_or_len is_required (drop (i + 1) (map v xs))) 0) e)

  pub first_later : (v (get_or xs i d)).required ≡ false → first_from (map v xs) (i + 1) ≡ first_from (map v xs) i
  first_later e =
      let n = position_or_len is_required (drop (i + 1) (map v xs)) in
      let w : i + 1 + n ≡ i + (1 + n) = omega arith in
      w ∙ sym (step ∙ ap (λ b. i + cond (not b) (1 + n) 0) e)

-- one place more is filled, below those that are
pub filled_more : (fs : List Live) (places : List ℕ) (at n count next : ℕ) → n ≡ at + 1 → at < length places → next ≡ first_from fs at → ((k : ℕ) → n ≤ k → k < count → get_or places k 0 ≡ first_from fs k)
    → (k : ℕ) → at ≤ k → k < count → get_or (set places at next) k 0 ≡ first_from fs k
filled_more fs places at n count next e lt is filled k le within = grind (arith, common_steps, filled k, is)

-- What is looked up.

-- what `get` lends of a slice
pub item_lent : {A : Type 0} (xs : List A) (i : ℕ) (r : Option (Bor A)) (x : Bor A) → IsItemAt xs i r → r ≡ Some x → slice_get xs i ≡ Some x.now
item_lent xs i r x h e =
    let g = subst (λ o. IsItemAt xs i o) e h in
    slice_get-get_or xs i x.now g.3.0 ∙ ap Some (sym (g.4 (omega arith) x.now))

pub no_item_lent : {A : Type 0} (xs : List A) (i : ℕ) (r : Option (Bor A)) → IsItemAt xs i r → r ≡ None → length xs ≤ i
no_item_lent xs i r h e = let g = subst (λ o. IsItemAt xs i o) e h in g.3

next_is : (fs : List Live) (i : ℕ) → i < length fs → next_required_of fs i ≡ cond (nat_lt (first_from fs i) (length fs)) (Some (first_from fs i)) None
next_is fs i lt = grind (arith, nat_tests, length-drop i fs)

module _ (fs : List Live) (places : List ℕ) (i : ℕ) (all : AreNextRequired fs places) (place : ℕ) (at : slice_get places i ≡ Some place) where
  is_next : next_required_of fs i ≡ cond (nat_lt place (length places)) (Some place) None
  is_next =
      let lt = slice_get_within places i place at in
      let got = get_or_from_slice_get places i place 0 at in
      let long = all.long in
      grind (arith, next_is fs i, all.at i, got)

  pub next_found : place < length places → Some place ≡ next_required_of fs i
  next_found lt = let e : nat_lt place (length places) ≡ true = grind (arith, nat_tests) in sym (is_next ∙ ap (λ b. cond b (Some place) None) e)

  pub next_missed : length places ≤ place → None ≡ next_required_of fs i
  next_missed le = let e : nat_lt place (length places) ≡ false = grind (arith, nat_tests) in sym (is_next ∙ ap (λ b. cond b (Some place) None) e)

pub next_past : (fs : List Live) (places : List ℕ) (i : ℕ) → AreNextRequired fs places → length places ≤ i → None ≡ next_required_of fs i
next_past fs places i all le = let e : drop i fs ≡ [] = drop_of_length-le fs (omega (arith, all.long)) in sym (ap (λ xs. option_map (λ j. i + j) (position is_required xs)) e)

-- the places that the index has of a table's fields
pub next_read : (rows : Rows) (lists : List (List ℕ)) (n : ℕ) (places : List ℕ) → AreMatched (λ o places. AreNextRequired (live_in rows (Some o)) places) rows.objects lists → IsTrue (is_table rows n) → slice_get lists n ≡ Some places
    → AreNextRequired (live_fields rows n) places
unfolding live_fields
next_read rows lists n places matched table at = go (slice_get rows.objects n) refl table where
  go : (o : Option Object) → slice_get rows.objects n ≡ o → IsTrue (is_some_table o) → AreNextRequired (live_in rows (slice_get rows.objects n)) places
  go None e t = absurd cc
  go (Some o) e t = subst (λ x. AreNextRequired (live_in rows x) places) (sym e) (matched.at n o places e at)
