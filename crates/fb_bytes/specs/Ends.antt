-- What a counted call answers, and what it adds to the counts.
use Rattle.std.specs.Prelude.{ℕ, ◌+◌, ◌-◌, ◌^◌, Bool, false, List, [], ◌∷◌, Result, Ok, Err, min, nat_eq, if◌then◌else◌}

-- 1 where the call failed
abbrev pub failed : {T E : Type 0} → Result T E → ℕ
failed (Ok value) = 0
failed (Err error) = 1

-- whether the input has ended: the last read into a nonempty piece answered 0; a read into an empty piece tells nothing
abbrev pub told_end : {E : Type 0} → Bool → Result ℕ E → List ℕ → Bool
told_end before answer [] = before
told_end before (Ok taken) (byte ∷ bytes) = nat_eq taken 0
told_end before (Err error) (byte ∷ bytes) = false

-- one more by a count that stays at 2^128 - 1
abbrev pub one_more : ℕ → ℕ
one_more count = min (count + 1) (2 ^ 128 - 1)

-- one more where a write failed, or took nothing of a nonempty piece
abbrev pub failed_more : {E : Type 0} → Result ℕ E → List ℕ → ℕ → ℕ
failed_more (Err error) piece count = one_more count
failed_more (Ok taken) [] count = count
failed_more (Ok taken) (byte ∷ bytes) count = if nat_eq taken 0 then one_more count else count

-- a reader or writer, the calls made of it, those that failed, and whether it told its end
pub record Counts (I : Type 0) : Type 0 where
  pub inner : I
  pub calls : ℕ
  pub failures : ℕ
  pub ended : Bool
