-- Names that are words, and names in a list.
use Rattle.std.proofs.Common.{◌≡◌, ◌∙◌, ℕ, List, [], ◌∷◌, ◌++◌, append_assoc, append-nil, refl, sym, ap}
use Rattle.std.proofs.lemmas.{Bool.false_from_ne_true, Bool.ne_eqb, Str.IsUtf8-from_is_utf8, Str.is_utf8-from_IsUtf8}
use Rattle.std.specs.Prelude.{None, Some}
use Rattle.std.specs.Str.{IsUtf8, is_utf8}
use Rattle.fbcheck_serve.specs.{CheckLaws.AreNamesAsWritten, CheckLaws.IsUnbroken, CheckLaws.spelled, Names.last_name, Names.listed_from, Names.listed_name, Names.wrong_text}
use Rattle.fbcheck_serve.specs.declared.names.Misnomer.TheVariants.{NotText}

-- bytes that are a text, and bytes that are none
pub text_right : (text bytes : List ℕ) → text ≡ bytes → IsUtf8 text → wrong_text bytes ≡ None
text_right text bytes are is = rw (← are, is_utf8-from_IsUtf8 text is) refl

pub no_text : (text bytes : List ℕ) → text ≡ bytes → (IsUtf8 text → ⊥) → wrong_text bytes ≡ Some NotText
no_text text bytes are isnt = rw (← are, false_from_ne_true (is_utf8 text) (λ yes. isnt (IsUtf8-from_is_utf8 text yes))) refl

-- a name up to the byte that ends it, and one up to the end
read_ended : (front name list : List ℕ) → IsUnbroken name → listed_from front (name ++ (0 ∷ list)) ≡ listed_name (front ++ name) ∷ listed_from [] list
read_ended front [] list whole = ap (λ f. listed_name f ∷ listed_from [] list) (sym (append-nil front))
read_ended front (b ∷ name) list (other, whole) =
    rw (ne_eqb b 0 other) (read_ended (front ++ (b ∷ [])) name list whole ∙ ap (λ f. listed_name f ∷ listed_from [] list) (append_assoc front (b ∷ []) name))

read_last : (front name : List ℕ) → IsUnbroken name → listed_from front name ≡ last_name (front ++ name)
read_last front [] whole = ap last_name (sym (append-nil front))
read_last front (b ∷ name) (other, whole) =
    rw (ne_eqb b 0 other) (read_last (front ++ (b ∷ [])) name whole ∙ ap last_name (append_assoc front (b ∷ []) name))

-- names in a list are read as they stand there
pub names_as_written : AreNamesAsWritten
names_as_written [] last all whole = read_last [] last whole
names_as_written (name ∷ names) last (first, all) whole =
    ap (λ l. listed_from [] l) (append_assoc name (0 ∷ spelled names) last) ∙ read_ended [] name (spelled names ++ last) first
    ∙ ap (λ l. listed_name name ∷ l) (names_as_written names last all whole)
