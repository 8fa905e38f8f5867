-- Lines of bounded length: no byte of a name is shown as a newline.
use Rattle.std.proofs.Common.{◌≡◌, ◌∙◌, ◌<◌, ◌≤◌, ℕ, zero, suc, true, false, List, [], ◌∷◌, ◌++◌, ap, append-nil, append_assoc, arith, codes, get_or, length, refl, sym}
use Rattle.std.proofs.lemmas.{Bool.Decides.eqb_tells, List.length-append, List.Folds.list_all-append}
use mathlib.Core.Logic.{inl, inr}
use Rattle.std.specs.Prelude.{Bool, ◌==◌, ◌||◌, ◌/◌, ◌%◌, nat_lt, if◌then◌else◌}
use Rattle.std.specs.List.{flat_map, list_all}
use Rattle.clap.proofs.WalkLemmas.{both}
use Rattle.hex.specs.Hex.{encode_lower, encode_with, lower_digits}
use Rattle.fb_run.specs.AnswerText.{byte_text}
use Rattle.fbcheck_texts.specs.Hints.{IsHint, IsUnended, is_inner, is_line}

-- a digit of this table, and the 0 that stands for none
digit_inner : (digits : List ℕ) (n : ℕ) → list_all is_inner digits ≡ true → is_inner (get_or digits n 0) ≡ true
digit_inner [] n all = refl
digit_inner (d ∷ digits) zero all = (both _ _ all).0
digit_inner (d ∷ digits) (suc n) all = digit_inner digits n (both _ _ all).1

digits_shown : (b : ℕ) → (list_all is_inner (codes "\\x" ++ encode_lower (b ∷ [])) ≡ true) × (length (codes "\\x" ++ encode_lower (b ∷ [])) ≤ 4)
unfolding encode_with
digits_shown b = (rw (digit_inner lower_digits (b / 16) refl, digit_inner lower_digits (b % 16) refl) refl, omega arith)

-- a byte as it is shown
abbrev IsShort : List ℕ → Type 0
IsShort text = (list_all is_inner text ≡ true) × (length text ≤ 4)

quoted : (b : ℕ) → (b == 34 || b == 92) ≡ true → is_inner b ≡ true
quoted b quote = elim (eqb_tells b 10) [ inl w ↦ absurd (let never = rw w.1 at quote in cc) | inr w ↦ rw w.0 refl ]

itself : (b : ℕ) → (nat_lt b 32 || nat_lt 126 b) ≡ false → is_inner b ≡ true
itself b printable = elim (eqb_tells b 10) [ inl w ↦ absurd (let never = rw w.1 at printable in cc) | inr w ↦ rw w.0 refl ]

shown_by : (quote odd : Bool) (b : ℕ) (digits : List ℕ) → IsShort digits → (quote ≡ true → is_inner b ≡ true) → (odd ≡ false → is_inner b ≡ true)
    → IsShort (if quote then 92 ∷ b ∷ [] else if odd then digits else b ∷ [])
shown_by true odd b digits short inner other = (rw (inner refl) refl, omega arith)
shown_by false true b digits short inner other = short
shown_by false false b digits short inner other = (rw (other refl) refl, omega arith)

byte_shown : (b : ℕ) → IsShort (byte_text b)
byte_shown b = shown_by (b == 34 || b == 92) (nat_lt b 32 || nat_lt 126 b) b _ (digits_shown b) (quoted b) (itself b)

-- a byte more where there is room
pub one_more : (text new : List ℕ) (b : ℕ) → IsUnended text → length text < 1048570 → new ≡ text ++ flat_map byte_text (b ∷ []) → IsUnended new
one_more text new b (inner, short) room is =
    let (shown, few) = byte_shown b in
    let all : new ≡ text ++ byte_text b = is ∙ ap (λ (piece : List ℕ). text ++ piece) (append-nil (byte_text b)) in
    rw all (list_all-append is_inner text (byte_text b) ∙ rw (inner, shown) refl, rw (length-append text (byte_text b)) (omega (arith, few, room)))

-- the end of a line
line_ended : (text : List ℕ) → list_all is_inner text ≡ true → is_line (text ++ codes "\n") ≡ true
line_ended [] inner = refl
line_ended (b ∷ text) inner =
    let (here, behind) = both (is_inner b) (list_all is_inner text) inner in
    elim (eqb_tells b 10) [ inl w ↦ absurd (let never = rw w.0 at here in cc) | inr w ↦ rw w.0 (line_ended text behind) ]

pub ended : (text new : List ℕ) → IsUnended text → new ≡ text ++ codes "\n" → IsHint new
ended text new (inner, short) is = rw is (line_ended text inner, rw (length-append text (codes "\n")) (omega (arith, short)))

pub cut : (text new : List ℕ) → IsUnended text → new ≡ text ++ codes "..\n" → IsHint new
cut text new (inner, short) is =
    let all : new ≡ (text ++ codes "..") ++ codes "\n" = is ∙ sym (append_assoc text (codes "..") (codes "\n")) in
    rw all (line_ended (text ++ codes "..") (list_all-append is_inner text (codes "..") ∙ rw inner refl), rw (length-append (text ++ codes "..") (codes "\n"), length-append text (codes "..")) (omega (arith, short)))
