-- What must hold of a table's head, a uoffset, a string, a vector and a value that stands inline.
use Rattle.std.specs.Prelude.{◌≡◌, ℕ, ◌+◌, ◌*◌, ◌%◌, ◌<◌, ◌≤◌, ◌⊎◌, IsTrue, List, length}
use Rattle.fb_bytes.specs.Word.{word}
use Rattle.fb_rules.specs.{declared.checks.Checks.Checks, Places.has_vtable, Places.vtable, Places.vtable_size, Places.inline_size}

-- p is a multiple of its alignment, where alignment is checked
abbrev pub IsAligned : Checks → ℕ → ℕ → Type 0
IsAligned c p align = IsTrue c.alignment → p % align ≡ 0

-- n bytes at p end within the inline size of the table at t, where inline sizes are checked
abbrev pub EndsInTable : Checks → List ℕ → ℕ → ℕ → ℕ → Type 0
EndsInTable c b t p n = IsTrue c.inline_size → p + n ≤ t + inline_size b t

-- a table has its head at t
pub record IsTable (c : Checks) (b : List ℕ) (t : ℕ) : Type 0 where
  pub within : t + 4 ≤ length b
  pub aligned : IsAligned c t 4
  pub vtable_not_negative : IsTrue (has_vtable b t)
  pub vtable_within : vtable b t + 2 ≤ length b
  pub vtable_aligned : IsAligned c (vtable b t) 2
  pub size_even : vtable_size b t % 2 ≡ 0
  pub size_enough : 4 ≤ vtable_size b t
  pub vtable_whole : vtable b t + vtable_size b t ≤ length b

-- a uoffset stands at p
pub record IsOffset (c : Checks) (b : List ℕ) (p : ℕ) : Type 0 where
  pub within : p + 4 ≤ length b
  pub aligned : IsAligned c p 4
  pub not_zero : 0 < word b p 4

-- a string stands at s: its count, so many bytes, and a byte 0
pub record IsString (c : Checks) (b : List ℕ) (s : ℕ) : Type 0 where
  pub count : s + 4 ≤ length b
  pub aligned : IsAligned c s 4
  pub within : s + 4 + (word b s 4 + 1) ≤ length b
  pub terminated : word b (s + 4 + word b s 4) 1 ≡ 0

-- a vector stands at v: its count, and so many elements of this size and alignment
pub record IsVector (c : Checks) (b : List ℕ) (v size align : ℕ) : Type 0 where
  pub count : v + 4 ≤ length b
  pub aligned : IsAligned c v 4
  pub within : v + 4 + word b v 4 * size ≤ length b
  pub elements_aligned : (word b v 4 ≡ 0) ⊎ IsAligned c (v + 4) align

-- a scalar or struct of this size and alignment stands at p
pub record IsInline (c : Checks) (b : List ℕ) (p size align : ℕ) : Type 0 where
  pub within : p + size ≤ length b
  pub aligned : IsAligned c p align
