-- Words and numbers, and what ends them.
use Rattle.std.proofs.Common.{◌≡◌, ℕ, ◌+◌, ◌-◌, ◌*◌, ◌≤◌, ◌<◌, ◌⊎◌, inl, inr, false, List, [], ◌∷◌, ◌++◌, take, drop, length, get_or, Option, Some, None, IsTrue, refl, sym, ◌∙◌, subst, arith, append-nil}
use Rattle.std.specs.List.{AllByRecursion}
use Rattle.std.proofs.{lemmas.Bool.or_right, lemmas.Bool.Decides.nat_tests, lemmas.List.take-append-drop, Math.Seq.drop-cons}
use Rattle.fb_access.specs.Grammar.{is_digit, begins_name, goes_on, number_from, IsName, IsNumber, Part, field, spelling}
use Rattle.fb_access.specs.Cutting.{GoOn, Stops, IsWord, Ends, BeginsLike, next_digit}

abbrev pub AreDigits : List ℕ → Type 0
AreDigits cs = AllByRecursion (λ x. IsTrue (is_digit x)) cs

-- Names and numbers are words.
pub name_word : (n : List ℕ) → IsName n → GoOn n
name_word n h = grind arith

digits_word : (ds : List ℕ) → AreDigits ds → GoOn ds
digits_word [] h = tt
digits_word (c ∷ cs) h = (or_right (begins_name c) (is_digit c) h.0, digits_word cs h.1)

number_digits : (ds : List ℕ) → IsNumber ds → AreDigits ds
number_digits ds h = grind arith

pub number_word : (ds : List ℕ) → IsNumber ds → GoOn ds
number_word ds h = digits_word ds (number_digits ds h)

-- a part is whole where the next one begins, or none does
parts_stop : (ps : List Part) → Stops (spelling ps)
parts_stop [] = tt
parts_stop (field n ∷ ps) = refl
parts_stop (p ∷ ps) = refl

pub ends_here : (p : Part) (ps : List Part) → Ends p (spelling ps)
ends_here p ps = grind (arith, parts_stop)

-- one word begins a text, and one rest follows it
pub one_word : (v w s t : List ℕ) → GoOn v → Stops s → GoOn w → Stops t → v ++ s ≡ w ++ t → (v ≡ w) × (s ≡ t)
one_word [] [] s t a b c d e = (refl, e)
one_word [] (x ∷ w) s t a b c d e = grind arith
one_word (x ∷ v) [] s t a b c d e = grind arith
one_word (x ∷ v) (y ∷ w) s t a b c d e = grind (arith, one_word v w s t)

-- a word that goes on so far ends here
pub word_ends : (text : List ℕ) (i d : ℕ) → i < length text → GoOn (take i text) → goes_on (get_or text i d) ≡ false → IsWord text (take i text) (drop i text)
word_ends text i d l h e = record { whole = sym (take-append-drop i text); go_on = h; stops = rw (drop-cons text i d l) e }

-- Numbers, digit by digit.
number_grows : (v : ℕ) (ds : List ℕ) → v ≤ number_from v ds
number_grows v [] = omega arith
number_grows v (c ∷ ds) = let h = number_grows (10 * v + (c - 48)) ds in omega arith

number_on : (v : ℕ) (ds es : List ℕ) → number_from v (ds ++ es) ≡ number_from (number_from v ds) es
number_on v [] es = refl
number_on v (d ∷ ds) es = number_on (10 * v + (d - 48)) ds es

-- these digits have been read, and this is their number
abbrev pub AreSoFar : List ℕ → Option ℕ → Type 0
AreSoFar ds None = ds ≡ []
AreSoFar ds (Some v) = IsNumber ds × (number_from 0 ds ≡ v)

digits_more : (ds : List ℕ) (c : ℕ) → AreDigits ds → IsTrue (is_digit c) → AreDigits (ds ++ c ∷ [])
digits_more [] c h g = (g, tt)
digits_more (d ∷ ds) c h g = (h.0, digits_more ds c h.1 g)

pub one_digit_more : (ds : List ℕ) (o : Option ℕ) (c v : ℕ) → AreSoFar ds o → next_digit o c ≡ Some v → AreSoFar (ds ++ c ∷ []) (Some v)
unfolding next_digit
one_digit_more ds o c v h e = grind (arith, digits_more, nat_tests, number_on)

-- digits before a byte that is none, where others are that a bracket closes
digits_before : (ds es us vs : List ℕ) (c : ℕ) → AreDigits ds → AreDigits es → ds ++ c ∷ us ≡ es ++ 93 ∷ vs → ((c ≡ 93) × (es ≡ ds)) ⊎ ((xs : List ℕ) × (es ≡ ds ++ c ∷ xs))
digits_before [] [] us vs c h g e = inl (cc, refl)
digits_before [] (x ∷ es) us vs c h g e = inr (es, cc)
digits_before (d ∷ ds) [] us vs c h g e = grind arith
digits_before (d ∷ ds) (x ∷ es) us vs c h g e = elim (digits_before ds es us vs c h.1 g.1 cc) [ inl f ↦ inl (f.0, cc) | inr f ↦ inr (f.0, cc) ]

digits_end : (ds es vs : List ℕ) → AreDigits ds → ds ≡ es ++ 93 ∷ vs → ⊥
digits_end [] [] vs h e = cc
digits_end [] (x ∷ es) vs h e = cc
digits_end (d ∷ ds) [] vs h e = grind arith
digits_end (d ∷ ds) (x ∷ es) vs h e = digits_end ds es vs h.1 cc

so_far_digits : (ds : List ℕ) (o : Option ℕ) → AreSoFar ds o → AreDigits ds
so_far_digits ds o h = grind (arith, number_digits)

none_yet : (ds es : List ℕ) (o : Option ℕ) → AreSoFar ds o → o ≡ None → es ≡ ds → IsNumber es → ⊥
none_yet ds es o h e same n = grind arith

digit_at : (ds xs : List ℕ) (c : ℕ) → AreDigits (ds ++ c ∷ xs) → IsTrue (is_digit c)
digit_at [] xs c h = h.0
digit_at (d ∷ ds) xs c h = digit_at ds xs c h.1

-- with each digit of a number the digits before it go on
goes_on_so : (ds xs : List ℕ) (o : Option ℕ) (c : ℕ) → AreSoFar ds o → next_digit o c ≡ None → IsNumber (ds ++ c ∷ xs) → ⊥
unfolding next_digit
goes_on_so [] xs None c h dead n = grind (arith, nat_tests)
goes_on_so (d ∷ ds) xs None c h dead n = cc
goes_on_so [] xs (Some v) c h dead n = h.0
goes_on_so (d ∷ ds) xs (Some v) c h dead (inl n) = grind arith
goes_on_so (d ∷ ds) xs (Some v) c h dead (inr n) =
    let on = number_on 0 (d ∷ ds) (c ∷ xs) in
    let more = number_grows (10 * v + (c - 48)) xs in
    let first = number_grows (d - 48) ds in
    let digit = digit_at (d ∷ ds) xs c n.1 in
    grind (arith, nat_tests)

-- no number goes on with what begins like this
abbrev pub IsDead : Option ℕ → List ℕ → Type 0
IsDead o [] = Unit {0}
IsDead o (c ∷ cs) = (next_digit o c ≡ None) × (c ≡ 93 → o ≡ None)

pub dead_at_end : (o : Option ℕ) (bad : List ℕ) → length bad ≡ 0 → IsDead o bad
dead_at_end o bad e = grind arith

pub dead_at_bracket : (o : Option ℕ) (c : ℕ) (bad cs : List ℕ) → bad ≡ c ∷ cs → c ≡ 93 → o ≡ None → IsDead o bad
unfolding next_digit
dead_at_bracket o c bad cs e f none = grind arith

pub no_number : (ds es bad t vs : List ℕ) (o : Option ℕ) → AreSoFar ds o → IsDead o bad → BeginsLike bad t → IsNumber es → ds ++ t ≡ es ++ 93 ∷ vs → ⊥
no_number ds es [] t vs o h dead like n e = digits_end ds es vs (so_far_digits ds o h) (sym (append-nil ds) ∙ subst (λ u. ds ++ u ≡ es ++ 93 ∷ vs) like e)
no_number ds es (c ∷ cs) [] vs o h dead like n e = like
no_number ds es (c ∷ cs) (d ∷ us) vs o h dead like n e = elim (digits_before ds es us vs d (so_far_digits ds o h) (number_digits es n) e) [
  | inl f ↦ none_yet ds es o h (dead.1 (like ∙ f.0)) f.1 n
  | inr f ↦ goes_on_so ds f.0 o d h (subst (λ x. next_digit o x ≡ None) like dead.0) (subst IsNumber f.1 n)
]
