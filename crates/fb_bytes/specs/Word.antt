-- The numbers that stand in a buffer, and a buffer whose reads are counted.
use Rattle.std.specs.Prelude.{ℕ, ℤ, zero, suc, ◌+◌, ◌*◌, List, slice_index}
use Rattle.std.specs.Int.{cast_signed, w32}

-- the number in the n bytes at p, the lowest byte first
unfoldable pub word : List ℕ → ℕ → ℕ → ℕ
word bytes p zero = 0
word bytes p (suc n) = slice_index bytes p + 256 * word bytes (suc p) n

-- the number in the four bytes at p, in two's complement
abbrev pub signed_word : List ℕ → ℕ → ℤ
signed_word bytes p = cast_signed w32 (word bytes p 4)

-- a buffer, how many reads were counted, and which meter it is: a meter keeps its mark, and nothing says which a new one has
pub record Metered : Type 0 where
  pub bytes : List ℕ
  pub count : ℕ
  pub mark : ℕ

-- a buffer that is lent to a walk, how many reads were counted, and how many of these before a count in 64 bits
-- began (of a loan this is 0)
pub record Lent : Type 0 where
  pub bytes : List ℕ
  pub count : ℕ
  pub base : ℕ

-- the count of a meter whose bytes are lent, more than any reads come to: what was read is told once they are settled
abbrev pub while_lent : ℕ
while_lent = 340282366920938463463374607431768211455
