-- Lists that stand one after another in one vector.
use Rattle.std.specs.Prelude.{ℕ, ◌+◌, ◌-◌, ◌<◌, ◌≤◌, ◌^◌, List, length, take, drop, All}

-- the list in this range
abbrev pub part : {T : Type 0} → List T → ℕ × ℕ → List T
part rows r = take (r.1 - r.0) (drop r.0 rows)

-- a range within so many rows, of fewer than 2 ^ 31
pub record IsPart (rows : ℕ) (r : ℕ × ℕ) : Type 0 where
  pub ordered : r.0 ≤ r.1
  pub within : r.1 ≤ rows
  pub few : r.1 < r.0 + 2 ^ 31

-- each range is within the rows
abbrev pub AreWithin : {T : Type 0} → List T → List (ℕ × ℕ) → Type 0
AreWithin rows ranges = All (λ r. (r.0 ≤ r.1) × (r.1 ≤ length rows)) ranges
