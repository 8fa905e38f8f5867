-- How a stream of messages is cut.
use Rattle.std.proofs.Common.{◌≡◌, ℕ, zero, suc, ◌+◌, ◌<◌, ◌≤◌, ◌⊎◌, List, [], ◌∷◌, ◌++◌, length, take, drop, get_or, refl, sym, ap, ◌∙◌, arith, append_assoc, length-append, length-drop, length-take-le, take-append-drop}
use mathlib.Core.Logic.{inl, inr}
use Rattle.std.specs.{List.concat, List.All, Int.from_be_bytes, Int.from_le_bytes, Int.w32}
use Rattle.std.proofs.lemmas.{Bool.cases_lt, List.take_at, List.take-append-le, List.get_or-take, List.append_cancel_left, List.Elements.All-nil, List.Elements.All-cons}
use Rattle.std.proofs.lemmas.List.Elements.{All-head, All-tail}
use Rattle.fb_bytes.specs.{Word.word, declared.cut.Cut.Cut, declared.cut.Endian.Endian, declared.cut.Endian.TheVariants.Little, declared.cut.Endian.TheVariants.Big}
use Rattle.fb_bytes.specs.Messages.{big_word, declared, IsMessage, IsPartial, IsOversize, Splits, OneReading, SomeReading}

-- the number of a prefix, as std reads it
pub declared_le_bytes : (bytes : List ℕ) → from_le_bytes w32 bytes ≡ declared Little bytes
unfolding word
declared_le_bytes bytes = omega arith

pub declared_be_bytes : (bytes : List ℕ) → from_be_bytes w32 bytes ≡ declared Big bytes
unfolding big_word
declared_be_bytes bytes = refl

-- the number is that of the first four bytes
pub declared_front : (order : Endian) (xs ys : List ℕ) → take 4 xs ≡ ys → declared order xs ≡ declared order ys
unfolding word big_word
declared_front order xs ys e = go order (at 0 (omega arith)) (at 1 (omega arith)) (at 2 (omega arith)) (at 3 (omega arith)) where
  at : (i : ℕ) → i < 4 → get_or xs i 0 ≡ get_or ys i 0
  at i h = sym (get_or-take 4 xs i 0 h) ∙ ap (λ l. get_or l i 0) e

  go : (order : Endian) → get_or xs 0 0 ≡ get_or ys 0 0 → get_or xs 1 0 ≡ get_or ys 1 0 → get_or xs 2 0 ≡ get_or ys 2 0 → get_or xs 3 0 ≡ get_or ys 3 0 → declared order xs ≡ declared order ys
  go Little a b c d = omega arith
  go Big a b c d = omega arith

-- bytes behind a whole prefix don't change its number
pub declared_append : (order : Endian) (xs ys : List ℕ) → 4 ≤ length xs → declared order (xs ++ ys) ≡ declared order xs
declared_append order xs ys four = declared_front order (xs ++ ys) (take 4 xs) (take-append-le 4 xs ys four) ∙ sym (declared_front order xs (take 4 xs) refl)

-- the number stands in as many bytes as are taken of it, from four on
pub declared_take : (order : Endian) (n : ℕ) (xs : List ℕ) → 4 ≤ n → n ≤ length xs → declared order (take n xs) ≡ declared order xs
declared_take order n xs four within =
    sym (declared_append order (take n xs) (drop n xs) (omega (arith, length-take-le n xs within))) ∙ ap (declared order) (take-append-drop n xs)

-- of two messages that begin one stream each is the other
message-same : (cut : Cut) (m m' x x' : List ℕ) → IsMessage cut m → IsMessage cut m' → m ++ x ≡ m' ++ x' → (m ≡ m') × (x ≡ x')
message-same cut m m' x x' is is' e =
    let number : declared cut.order m ≡ declared cut.order m' = sym (declared_append cut.order m x is.prefixed) ∙ ap (declared cut.order) e ∙ declared_append cut.order m' x' is'.prefixed in
    let long : length m ≡ length m' = omega (arith, is.whole, is'.whole) in
    let same : m ≡ m' = sym (take_at m x (length m) refl) ∙ ap (take (length m)) e ∙ take_at m' x' (length m) (sym long) in
    (same, append_cancel_left m x x' (e ∙ ap (λ l. l ++ x') (sym same)))

-- no message begins a rest
rest-none : (cut : Cut) (m x : List ℕ) → IsMessage cut m → IsPartial cut (m ++ x) ⊎ IsOversize cut (m ++ x) → ⊥
rest-none cut m x is last =
    let number : declared cut.order (m ++ x) ≡ declared cut.order m = declared_append cut.order m x is.prefixed in
    let long : length (m ++ x) ≡ length m + length x = length-append m x in
    let four : 4 ≤ length (m ++ x) = omega (arith, is.prefixed) in
    elim last [
      | inl part ↦ let short = part four in omega (arith, is.whole)
      | inr over ↦ omega (arith, is.whole, is.within)
    ]

readings : (cut : Cut) (messages messages' : List (List ℕ)) (rest rest' : List ℕ) → concat messages ++ rest ≡ concat messages' ++ rest'
    → All (IsMessage cut) messages → All (IsMessage cut) messages' → IsPartial cut rest ⊎ IsOversize cut rest → IsPartial cut rest' ⊎ IsOversize cut rest'
    → (messages ≡ messages') × (rest ≡ rest')
readings cut [] [] rest rest' e each each' last last' = (refl, e)
readings cut [] (m ∷ ms) rest rest' e each each' last last' =
    let from : rest ≡ m ++ (concat ms ++ rest') = e ∙ append_assoc m (concat ms) rest' in
    let moved : IsPartial cut (m ++ (concat ms ++ rest')) ⊎ IsOversize cut (m ++ (concat ms ++ rest')) = rw (← from) last in
    absurd (rest-none cut m (concat ms ++ rest') (All-head (IsMessage cut) m ms each') moved)
readings cut (m ∷ ms) [] rest rest' e each each' last last' =
    let from : rest' ≡ m ++ (concat ms ++ rest) = sym e ∙ append_assoc m (concat ms) rest in
    let moved : IsPartial cut (m ++ (concat ms ++ rest)) ⊎ IsOversize cut (m ++ (concat ms ++ rest)) = rw (← from) last' in
    absurd (rest-none cut m (concat ms ++ rest) (All-head (IsMessage cut) m ms each) moved)
readings cut (m ∷ ms) (m' ∷ ms') rest rest' e each each' last last' =
    let whole : m ++ (concat ms ++ rest) ≡ m' ++ (concat ms' ++ rest') = sym (append_assoc m (concat ms) rest) ∙ e ∙ append_assoc m' (concat ms') rest' in
    let first = message-same cut m m' (concat ms ++ rest) (concat ms' ++ rest') (All-head (IsMessage cut) m ms each) (All-head (IsMessage cut) m' ms' each') whole in
    let more = readings cut ms ms' rest rest' first.1 (All-tail (IsMessage cut) m ms each) (All-tail (IsMessage cut) m' ms' each') last last' in
    let heads : m ≡ m' = first.0 in
    let tails : ms ≡ ms' = more.0 in
    (cc, more.1)

pub readings_one : OneReading
readings_one cut stream messages messages' rest rest' s s' =
    readings cut messages messages' rest rest' (sym s.joined ∙ s'.joined) s.each s'.each s.last s'.last

splits-upto : (fuel : ℕ) (cut : Cut) (bytes : List ℕ) → length bytes ≤ fuel → (messages : List (List ℕ)) × (rest : List ℕ) × Splits cut bytes messages rest
splits-upto zero cut bytes short = ([], bytes, record { joined = refl; each = All-nil (IsMessage cut); last = inl (λ four. absurd (omega arith)) })
splits-upto (suc fuel) cut bytes short =
    let n = 4 + declared cut.order bytes in
    let stays : IsPartial cut bytes ⊎ IsOversize cut bytes → Splits cut bytes [] bytes =
    λ last. record { joined = refl; each = All-nil (IsMessage cut); last = last } in
    elim (cases_lt (length bytes) 4) [
      | inl few ↦ ([], bytes, stays (inl (λ four. absurd (omega arith))))
      | inr four ↦ elim (cases_lt cut.limit n) [
        | inl over ↦ ([], bytes, stays (inr (four, over)))
        | inr fits ↦ elim (cases_lt (length bytes) n) [
          | inl part ↦ ([], bytes, stays (inl (λ _. (part, fits))))
          | inr whole ↦
              let m = take n bytes in
              let long : length m ≡ n = length-take-le n bytes whole in
              let number : declared cut.order m ≡ declared cut.order bytes = declared_take cut.order n bytes (omega arith) whole in
              let more = splits-upto fuel cut (drop n bytes) (omega (arith, length-drop n bytes)) in
              let is : IsMessage cut m = record { prefixed = omega arith; whole = omega arith; within = omega arith } in (
                m ∷ more.0,
                more.1,
                record {
                  joined = sym (take-append-drop n bytes) ∙ ap (λ l. m ++ l) more.2.joined ∙ sym (append_assoc m (concat more.0) more.1);
                  each = All-cons (IsMessage cut) m more.0 is more.2.each;
                  last = more.2.last;
                },
              )
        ]
      ]
    ]

pub readings_some : SomeReading
readings_some cut stream = splits-upto (length stream) cut stream (omega arith)
