-- How bytes are split into messages and a rest.
use Rattle.std.proofs.Common.{ℕ, List, [], ◌∷◌, ◌++◌, ◌⊎◌, refl, sym, ap, ◌∙◌, arith, append-nil, append_assoc}
use mathlib.Core.Logic.{inl}
use Rattle.std.specs.List.{concat}
use Rattle.std.proofs.lemmas.List.{Elements.All-nil, Elements.All-cons, Elements.All-append, Folds.concat-append}
use Rattle.fb_bytes.specs.{declared.cut.Cut.Cut, Messages.IsMessage, Messages.IsPartial, Messages.IsOversize, Messages.Splits}

-- the rest with more bytes is split further
pub splits_then : (cut : Cut) (bytes more held rest : List ℕ) (xs ys : List (List ℕ))
    → Splits cut bytes xs held → Splits cut (held ++ more) ys rest → Splits cut (bytes ++ more) (xs ++ ys) rest
splits_then cut bytes more held rest xs ys first second = record {
  joined =
      ap (λ l. l ++ more) first.joined ∙ append_assoc (concat xs) held more ∙ ap (λ l. concat xs ++ l) second.joined
      ∙ sym (append_assoc (concat xs) (concat ys) rest) ∙ sym (ap (λ l. l ++ rest) (concat-append xs ys));
  each = All-append (IsMessage cut) xs ys first.each second.each;
  last = second.last;
}

-- no message, and a rest
pub splits_rest : (cut : Cut) (rest : List ℕ) → IsPartial cut rest ⊎ IsOversize cut rest → Splits cut rest [] rest
splits_rest cut rest last = record { joined = refl; each = All-nil (IsMessage cut); last = last }

pub empty_partial : (cut : Cut) → IsPartial cut []
empty_partial cut = λ four. absurd (omega arith)

-- one message, and nothing behind it
pub splits_one : (cut : Cut) (m : List ℕ) → IsMessage cut m → Splits cut m (m ∷ []) []
splits_one cut m is = record { joined = sym (append-nil (m ++ []) ∙ append-nil m); each = All-cons (IsMessage cut) m [] is (All-nil (IsMessage cut)); last = inl (empty_partial cut) }
