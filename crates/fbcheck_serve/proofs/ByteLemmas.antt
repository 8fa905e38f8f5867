-- What is told of fields of bytes and of their marks.
use Rattle.std.proofs.Common.{◌≡◌, ℕ, zero, suc, true, List, [], ◌∷◌, slice_get, Some, refl, sym, subst, inl, inr, arith}
use Rattle.std.specs.Prelude.{◌⊎◌, Result, Ok, Err}
use Rattle.std.specs.declared.alloc.AllocError.{AllocError}
use Rattle.fb_schema.specs.Rows.{Rows}
use Rattle.fb_bfbs.specs.Marks.{Marked}
use Rattle.fb_strict.specs.Holding.{is_lost}
use Rattle.fbcheck_texts.specs.{Hints.fault_with, declared.fault.AskFault.AskFault, declared.fault.AskFault.TheVariants.OutOfMemory}
use Rattle.fbcheck_serve.specs.ByteFields.{has_lost}

-- a fault with its hint is itself, or want of memory
pub told_or_not : {A : Type 0} (fault told : AskFault) (hint : Result A AllocError) → told ≡ fault_with fault hint → (told ≡ fault) ⊎ (told ≡ OutOfMemory)
told_or_not fault told (Ok hint) is = inl is
told_or_not fault told (Err none) is = inr is

-- what holds of both holds of it
pub either : (P : AskFault → Type 0) (fault told : AskFault) → (told ≡ fault) ⊎ (told ≡ OutOfMemory) → P fault → P OutOfMemory → P told
either P fault told (inl is) holds none = subst P (sym is) holds
either P fault told (inr is) holds none = subst P (sym is) none

pub hinted : {A : Type 0} (P : AskFault → Type 0) (fault told : AskFault) (hint : Result A AllocError) → told ≡ fault_with fault hint → P fault → P OutOfMemory → P told
hinted P fault told hint is holds none = either P fault told (told_or_not fault told hint is) holds none

-- a mark that names no table
pub any_lost : (rows : Rows) (marks : List Marked) (i : ℕ) (m : Marked) → slice_get marks i ≡ Some m → is_lost rows m ≡ true → has_lost rows marks ≡ true
any_lost rows [] i m at is = absurd (cc)
any_lost rows (x ∷ marks) zero m at is = let same : x ≡ m = cc in rw (same, is) refl
any_lost rows (x ∷ marks) (suc i) m at is = let later = any_lost rows marks i m at is in grind arith
