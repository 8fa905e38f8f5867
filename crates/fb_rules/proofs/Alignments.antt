-- Alignments are powers of two.
use Rattle.std.proofs.Common.{◌≡◌, ℕ, ◌-◌, ◌%◌, bit_and, inl, inr, refl}
use Rattle.std.proofs.lemmas.Nat.{and_mask}
use Rattle.fb_schema.specs.Served.{IsAlignment}
use Rattle.fb_rules.specs.Plain.{IsSmall}

pub two : IsAlignment 2
two = (1, refl)

pub four : IsAlignment 4
four = (2, refl)

pub small : (n : ℕ) → IsSmall n → IsAlignment n
small n (inl e) = (0, e)
small n (inr (inl e)) = (1, e)
small n (inr (inr (inl e))) = (2, e)
small n (inr (inr (inr e))) = (3, e)

-- The bits below it are what is left behind its multiples.
pub low_bits : (at n : ℕ) → IsAlignment n → bit_and at (n - 1) ≡ at % n
low_bits at n (k, e) = rw e (and_mask at k)
