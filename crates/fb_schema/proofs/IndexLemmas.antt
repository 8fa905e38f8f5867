-- The steps by which the index of a schema is made.
use Rattle.std.proofs.Common.{◌≡◌, ℕ, zero, suc, ◌+◌, ◌<◌, ◌≤◌, ◌⊎◌, inl, inr, Bool, false, List, [], ◌∷◌, ◌++◌, length, get_or, slice_get, take, map, max, Some, None, Result, Ok, Err, OnOk, IfOk, IsOkAnd, refl, sym, ◌∙◌, ap, subst, arith, if◌then◌else◌}
use Rattle.std.proofs.lemmas.{List.map-append, List.get_or-map, List.length_push, List.map_more, Option.slice_get-get_or, Option.slice_get_within, Grind.take_at_read}
use Rattle.fb_schema.specs.{declared.rows.FieldRow.FieldRow, Live.Live, Live.AreSpaced, Live.live_rows, Live.widest_of, Index.AreMatched, Steps.act_of, Steps.have_acts, declared.views.Act.Act}
use Rattle.fb_schema.specs.{Rows.Object, Rows.field_of}
use Rattle.fb_schema.proofs.{Numbers.get_or_default, WalkLemmas.mapped_at}

-- what holds where a call was granted
pub on_ok : {X E : Type 0} (r : Result X E) (P Q : Type 0) → (P → Q) → OnOk r P → OnOk r Q
on_ok (Ok x) P Q f h = f h
on_ok (Err e) P Q f h = h

-- what was made and added
pub with_made : {X E : Type 0} (r : Result X E) (P Q : X → Type 0) (R : Type 0) → IsOkAnd r P → IfOk r Q → ((x : X) → P x → Q x → R) → R
with_made (Ok x) P Q R p q f = f x p q
with_made (Err e) P Q R p q f = absurd p

-- Matched lists grow together.
pub slice_get_end : {X : Type 0} (xs : List X) (x y : X) (n : ℕ) → slice_get (xs ++ x ∷ []) n ≡ Some y → (slice_get xs n ≡ Some y) ⊎ ((n ≡ length xs) × (x ≡ y))
slice_get_end [] x y zero e = inr (refl, (let w : x ≡ y = cc in w))
slice_get_end [] x y (suc n) e = absurd (let w : None ≡ Some y = e in cc)
slice_get_end (z ∷ zs) x y zero e = inl e
slice_get_end (z ∷ zs) x y (suc n) e = elim (slice_get_end zs x y n e) [ inl a ↦ inl a | inr b ↦ inr (ap suc b.0, b.1) ]

pub matched_more : {X Y : Type 0} (R : X → Y → Type 0) (xs : List X) (ys : List Y) (x : X) (y : Y) → AreMatched R xs ys → R x y → AreMatched R (xs ++ x ∷ []) (ys ++ y ∷ [])
matched_more R xs ys x y h r = record {
  long = omega (arith, length_push ys y, length_push xs x, h.long);
  at = λ n a b e f. (
      let x_at = slice_get_end xs x a n e in
      let y_at = slice_get_end ys y b n f in
      let x_low = slice_get_within xs n a in
      let y_low = slice_get_within ys n b in
      let long = h.long in
      grind (arith, x_at, y_at, x_low, y_low, h.at n a b, r));
}

pub matched_pushed : {X Y : Type 0} (R : X → Y → Type 0) (xs xs' : List X) (ys ys' : List Y) (x : X) (y : Y) → AreMatched R xs ys → xs' ≡ xs ++ x ∷ [] → ys' ≡ ys ++ y ∷ [] → R x y → AreMatched R xs' ys'
matched_pushed R xs xs' ys ys' x y h e f r = subst (λ zs. AreMatched R zs ys') (sym e) (subst (AreMatched R (xs ++ x ∷ [])) (sym f) (matched_more R xs ys x y h r))

-- a step of the loops over owners
pub matched_step : {X Y : Type 0} (R : X → Y → Type 0) (xs : List X) (i : ℕ) (x : X) (old new : List Y) (y : Y) → i < length xs → x ≡ get_or xs i x → AreMatched R (take i xs) old → new ≡ old ++ y ∷ [] → R x y → AreMatched R (take (i + 1) xs) new
matched_step R xs i x old new y lt is h e r =
    matched_pushed R (take i xs) (take (i + 1) xs) old new x y h ((take_at_read xs i x lt).1 ∙ ap (λ z. take i xs ++ z ∷ []) (sym is)) e r

pub widest_end : (xs : List Object) (o : Object) → widest_of (xs ++ o ∷ []) ≡ max (widest_of xs) (length (live_rows o))
widest_end [] o = omega arith
widest_end (x ∷ xs) o = let e = widest_end xs o in omega arith

-- one owner more, for what is one value of each
pub value_more : {X Y : Type 0} (g : X → Y) (xs : List X) (x : X) (old new : List Y) (y : Y) → old ≡ map g xs → new ≡ old ++ y ∷ [] → y ≡ g x → new ≡ map g (xs ++ x ∷ [])
value_more g xs x old new y h e r = e ∙ ap (λ zs. zs ++ y ∷ []) h ∙ ap (λ z. map g xs ++ z ∷ []) r ∙ sym (map-append g xs (x ∷ []))

pub lists_more : {X Y Z : Type 0} (f : List Y → Z) (g : X → Z) (xs : List X) (x : X) (old new : List (List Y)) (y : List Y) → map f old ≡ map g xs → new ≡ old ++ y ∷ [] → f y ≡ g x → map f new ≡ map g (xs ++ x ∷ [])
lists_more f g xs x old new y h e r = value_more g xs x (map f old) (map f new) (f y) h (ap (map f) e ∙ map-append f old (y ∷ [])) r

-- the owners up to the next
pub take_more : {X : Type 0} (xs : List X) (i : ℕ) (x : X) → i < length xs → x ≡ get_or xs i x → take i xs ++ x ∷ [] ≡ take (i + 1) xs
take_more xs i x lt is = ap (λ z. take i xs ++ z ∷ []) is ∙ sym (take_at_read xs i x lt).1

-- a step of the loop over objects, for what is one number of each
pub value_step : {X Y : Type 0} (g : X → Y) (xs : List X) (i : ℕ) (x : X) (old new : List Y) (y : Y) → i < length xs → x ≡ get_or xs i x → old ≡ map g (take i xs) → new ≡ old ++ y ∷ [] → y ≡ g x → new ≡ map g (take (i + 1) xs)
value_step g xs i x old new y lt is h e r = e ∙ ap (λ zs. zs ++ y ∷ []) h ∙ ap (λ z. map g (take i xs) ++ z ∷ []) (r ∙ ap g is) ∙ sym (map_more g xs i x lt)

pub kept_read : {X Y : Type 0} (f : X → Y) (xs : List X) (i : ℕ) (d : X) → i < length xs → slice_get (map f xs) i ≡ Some (f (get_or xs i d))
kept_read f xs i d lt = mapped_at f xs i (get_or xs i d) (slice_get-get_or xs i d lt)

pub mapped_read : {X Y : Type 0} (f : X → Y) (xs : List X) (i : ℕ) (d : X) → i < length xs → f (get_or xs i d) ≡ get_or (map f xs) i (f (get_or xs i d))
mapped_read f xs i d lt = let x = get_or xs i d in ap f (get_or_default xs i d x lt) ∙ sym (get_or-map f xs i x (f x) lt)

-- a slot of 16 bits leaves room below it for so many others
pub few_step : (live : List FieldRow) (i : ℕ) (d : FieldRow) → AreSpaced (map field_of live) → i < length live → (get_or live i d).slot < 65536 → i + 1 ≤ 32766
few_step live i d spaced lt range = let least = spaced.at i (field_of (get_or live i d)) (mapped_at field_of live i (get_or live i d) (slice_get-get_or live i d lt)) in omega (arith, least, range)

-- one field more, behind the others
acts_more : (p : Act → Bool) (fs : List Live) (f : Live) (b : Bool) → p (act_of f f.kind) ≡ b → have_acts p (fs ++ f ∷ []) ≡ if b then have_acts p fs else false
acts_more p [] f b e = grind (arith, e)
acts_more p (g ∷ gs) f b e = grind (arith, acts_more p gs f b e)

pub acts_step : {X : Type 0} (p : Act → Bool) (v : X → Live) (xs : List X) (i : ℕ) (d : X) (b : Bool) → i < length xs → p (act_of (v (get_or xs i d)) (v (get_or xs i d)).kind) ≡ b
    → have_acts p (map v (take (i + 1) xs)) ≡ if b then have_acts p (map v (take i xs)) else false
acts_step p v xs i d b lt e =
    let x = get_or xs i d in
    ap (λ zs. have_acts p (map v zs)) (take_at_read xs i d lt).1 ∙ ap (have_acts p) (map-append v (take i xs) (x ∷ []))
    ∙ acts_more p (map v (take i xs)) (v x) b e
