-- What a budget of reads allows.
use Rattle.std.proofs.Common.{◌≡◌, ℕ, ◌+◌, ◌≤◌, false, arith, Option}
use Rattle.std.proofs.lemmas.Bool.Decides.{nat_tests}
use Rattle.fb_rules.specs.{Bounds.AreAllowed, Bounds.allowed, Bounds.AreTooMany, MostReads.within_budget}

-- fewer reads are allowed too
pub fewer_reads : (budget : Option ℕ) (m n : ℕ) → m ≤ n → AreAllowed budget n → AreAllowed budget m
fewer_reads budget m n l h = grind arith

-- no reads are always allowed
pub no_reads : (budget : Option ℕ) → AreAllowed budget 0
no_reads budget = grind arith

-- reads that the test refuses are too many
pub are_too_many : (budget : Option ℕ) (n : ℕ) → allowed budget n ≡ false → AreTooMany budget n
are_too_many budget n h = grind (arith, nat_tests)

-- reads that aren't allowed
pub not_both : (budget : Option ℕ) (m n : ℕ) → m ≤ n → AreAllowed budget n → AreTooMany budget m → ⊥
not_both budget m n l h t = grind arith

-- no more than 7 reads past what is allowed
pub near : (budget : Option ℕ) (m n : ℕ) → n ≤ m + 7 → AreAllowed budget m → n ≤ within_budget budget n
near budget m n h r = grind arith

-- more reads are too many too
pub more_reads : (budget : Option ℕ) (m n : ℕ) → m ≤ n → AreTooMany budget m → AreTooMany budget n
more_reads budget m n l t = grind arith
