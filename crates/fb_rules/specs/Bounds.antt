-- What limits are, as contracts see them.
use Rattle.std.specs.Prelude.{ℕ, ◌+◌, ◌*◌, ◌≤◌, ◌<◌, min, Bool, true, nat_le, nat_lt, Option, Some, None, if◌then◌else◌}

-- how many tables may be open at once, how many may be opened, and, if these are bounded, how many reads may be counted
pub record Bounds : Type 0 where
  pub depth : ℕ
  pub tables : ℕ
  pub reads : Option ℕ

-- so many reads are at most the budget, if there is one
abbrev pub AreAllowed : Option ℕ → ℕ → Type 0
AreAllowed None n = Unit {0}
AreAllowed (Some most) n = n ≤ most

-- the same as a test
abbrev pub allowed : Option ℕ → ℕ → Bool
allowed None n = true
allowed (Some most) n = nat_le n most

-- so many reads are more than the budget
abbrev pub AreTooMany : Option ℕ → ℕ → Type 0
AreTooMany None n = ⊥
AreTooMany (Some most) n = most < n

-- a budget as a number: where there is none, one that no walk comes to
abbrev pub most_of : Option ℕ → ℕ
most_of None = 340282366920938463463374607431768211455
most_of (Some most) = most

-- the budget that such a number stands for
abbrev pub budget_of : ℕ → Option ℕ
budget_of most = if nat_lt most 18446744073709551616 then Some most else None

-- how many reads a buffer of so many bytes may take: so many for each of them and for 64 more
abbrev pub reads_of_length : ℕ → ℕ → ℕ
reads_of_length per_byte len = per_byte * (len + 64)

-- the lesser of a budget, if there is one, and this one
abbrev pub lesser_budget : Option ℕ → ℕ → ℕ
lesser_budget None n = n
lesser_budget (Some most) n = min most n

-- these limits for a buffer of so many bytes, which may take so many reads a byte
abbrev pub limits_of_length : Bounds → ℕ → ℕ → Bounds
limits_of_length L per_byte len = record L { reads = Some (lesser_budget L.reads (reads_of_length per_byte len)) }
