-- The text of values.
use Rattle.std.proofs.Common.{◌≡◌, ℕ, ◌<◌, List, [], ◌∷◌, ◌++◌, map, append-nil, append_assoc, arith, drop, length, take, get_or, refl, sym, ap, ◌∙◌}
use Rattle.std.specs.List.{flat_map}
use Rattle.std.proofs.lemmas.{Grind.flat_map-append, List.flat_map_more}
use Rattle.fb_run.proofs.InPieces.{front-more}
use Rattle.fb_access.specs.{Denotes.shown, declared.answer.Answer.Answer}
use Rattle.hex.specs.Hex.{encode_lower, encode_with}
use Rattle.fb_run.specs.{AnswerText.answers_text, AnswerText.byte_text, AnswerText.spaced_answer, AnswerText.spelled, declared.value_text.Spelling.TheVariants.Digits}

-- one byte more
pub texts_more : (xs : List ℕ) (b : ℕ) → flat_map byte_text (xs ++ b ∷ []) ≡ flat_map byte_text xs ++ byte_text b
texts_more xs b = sym (flat_map_more byte_text [] xs b)

-- a front that is written as it is, or the next byte, behind what was written before
pub front_spelled : (f : ℕ → List ℕ) (front rest : List ℕ) (n : ℕ) (more : List ℕ) → more ≡ flat_map f (take n rest) → flat_map f (front ++ take n rest) ≡ flat_map f front ++ more
front_spelled f front rest n more is = flat_map-append f front (take n rest) ∙ ap (λ l. flat_map f front ++ l) (sym is)

pub one_spelled : (f : ℕ → List ℕ) (rest : List ℕ) (d : ℕ) → 0 < length rest → f (get_or rest 0 d) ≡ flat_map f (take 1 rest)
one_spelled f [] d some = absurd (omega (arith, some))
one_spelled f (b ∷ rest) d some = sym (append-nil (f b))

-- some bytes more, each as it is written
pub spelled_added : (f : ℕ → List ℕ) (bytes front rest : List ℕ) (n : ℕ) (more rest' before now after : List ℕ) → rest' ≡ drop n rest → more ≡ flat_map f (take n rest) → bytes ≡ front ++ rest
    → now ≡ before ++ flat_map f front → after ≡ now ++ more → (next : List ℕ) × (bytes ≡ next ++ rest') × (after ≡ before ++ flat_map f next)
spelled_added f bytes front rest n more rest' before now after at is whole first second = (
  front ++ take n rest,
  front-more bytes front rest rest' n whole at,
  second ∙ ap (λ l. l ++ more) first ∙ append_assoc before (flat_map f front) more ∙ ap (λ l. before ++ l) (sym (front_spelled f front rest n more is)),
)

-- answers behind spaces, one after another, as their values
pub answers_each : (answers : List Answer) → flat_map spaced_answer answers ≡ answers_text (map shown answers)
answers_each [] = refl
answers_each (answer ∷ answers) = ap (λ l. spaced_answer answer ++ l) (answers_each answers)

-- two digits for each byte
pub digits_each : (bytes : List ℕ) → flat_map (spelled Digits) bytes ≡ encode_lower bytes
unfolding encode_with
digits_each [] = refl
digits_each (b ∷ bytes) = ap (λ l. encode_lower (b ∷ []) ++ l) (digits_each bytes)
