-- A text or an input that is passed on in pieces.
use Rattle.std.proofs.Common.{◌≡◌, ℕ, List, ◌++◌, take, drop, sym, ap, ◌∙◌, append_assoc, take-append-drop}

-- n bytes of the rest are passed too
pub front-more : (whole front rest rest' : List ℕ) (n : ℕ) → whole ≡ front ++ rest → rest' ≡ drop n rest → whole ≡ (front ++ take n rest) ++ rest'
front-more whole front rest rest' n is after =
    is ∙ ap (λ l. front ++ l) (sym (take-append-drop n rest)) ∙ sym (append_assoc front (take n rest) (drop n rest)) ∙ ap (λ l. (front ++ take n rest) ++ l) (sym after)
