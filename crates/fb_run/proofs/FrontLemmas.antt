-- A message that stands whole at the front of some bytes.
use Rattle.std.proofs.Common.{◌≡◌, ℕ, ◌+◌, ◌<◌, ◌≤◌, ◌⊎◌, inl, inr, List, length, take, arith, ap, sym, ◌∙◌, length-take-le}
use Rattle.std.proofs.lemmas.Bool.{cases_lt}
use Rattle.fb_bytes.specs.{Messages.declared, Messages.IsMessage, Messages.IsOversize, Messages.IsPartial, declared.cut.Cut.Cut, declared.cut.Endian.Endian}
use Rattle.fb_bytes.proofs.MessageLemmas.{declared_front, declared_take}

-- the number in front is that of the first four bytes
front_number : (order : Endian) (front bytes : List ℕ) → front ≡ take 4 bytes → declared order front ≡ declared order bytes
front_number order front bytes first = sym (declared_front order bytes front (sym first))

-- as many bytes as the number in front declares are a message
pub front_is_message : (cut : Cut) (n : ℕ) (front bytes message : List ℕ) → front ≡ take 4 bytes → n ≡ declared cut.order front + 4
    → n ≤ cut.limit → n ≤ length bytes → message ≡ take n bytes → IsMessage cut message
front_is_message cut n front bytes message first is within fits at =
    let told : declared cut.order front ≡ declared cut.order bytes = front_number cut.order front bytes first in
    let long : length message ≡ n = ap length at ∙ length-take-le n bytes fits in
    let number : declared cut.order message ≡ declared cut.order bytes = ap (declared cut.order) at ∙ declared_take cut.order n bytes (omega arith) fits in
    record { prefixed = omega arith; whole = omega arith; within = omega arith }

-- a prefix that declares too much, or more than is there
pub front_is_none : (cut : Cut) (n : ℕ) (front bytes : List ℕ) → front ≡ take 4 bytes → n ≡ declared cut.order front + 4
    → 4 ≤ length bytes → (n ≤ cut.limit → length bytes < n) → IsPartial cut bytes ⊎ IsOversize cut bytes
front_is_none cut n front bytes first is four short =
    let told : declared cut.order front ≡ declared cut.order bytes = front_number cut.order front bytes first in
    elim (cases_lt cut.limit n) [
      | inl over ↦ inr (four, omega (arith, over, is, told))
      | inr within ↦ let few = short within in inl (λ _. (omega (arith, few, is, told), omega (arith, within, is, told)))
    ]
