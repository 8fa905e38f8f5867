-- What is told behind a fault's text.
use Rattle.std.specs.Prelude.{ℕ, ◌≡◌, ◌==◌, ◌≤◌, Bool, IsTrue, codes, false, not, if◌then◌else◌, List, [], ◌∷◌, length, Result, Ok, Err}
use Rattle.std.specs.{List.list_all, declared.alloc.AllocError.AllocError}
use Rattle.fbcheck_texts.specs.declared.fault.AskFault.{AskFault, TheVariants.OutOfMemory}
use Rattle.fb_run.specs.declared.fault.RunFault.{RunFault, TheVariants.BareTooLong, TheVariants.Stream}

-- one line: its first newline is its last byte
abbrev pub is_line : List ℕ → Bool
is_line [] = false
is_line (b ∷ text) = if b == 10 then length text == 0 else is_line text

-- a hint: one line of at most 1,048,576 bytes
abbrev pub IsHint : List ℕ → Type 0
IsHint text = IsTrue (is_line text) × (length text ≤ 1048576)

-- behind a fault of a stream, or too long a bare input, a hint may stand, and behind another nothing
abbrev pub IsRunHint : RunFault → List ℕ → Type 0
IsRunHint (Stream cause) text = IsHint text
IsRunHint (BareTooLong limit) text = IsHint text
IsRunHint fault text = text ≡ codes "\n"

-- a byte that isn't a newline
abbrev pub is_inner : ℕ → Bool
is_inner b = not (b == 10)

-- the front of a hint: no byte of it is a newline, and there is room for its end
abbrev pub IsUnended : List ℕ → Type 0
IsUnended text = IsTrue (list_all is_inner text) × (length text ≤ 1048573)

-- a fault with its hint, or want of memory where there was none for that
abbrev pub fault_with : {A : Type 0} → AskFault → Result A AllocError → AskFault
fault_with fault (Ok hint) = fault
fault_with fault (Err none) = OutOfMemory
