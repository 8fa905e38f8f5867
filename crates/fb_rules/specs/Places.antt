-- Where the parts of a buffer stand.
use Rattle.std.specs.Prelude.{ℕ, ◌+◌, ◌%◌, pos, ◌-ℤ◌, nat_abs, int_le, Bool, not, ◌||◌, ◌==◌, nat_le, if◌then◌else◌, List, length, Option, Some, None}
use Rattle.fb_bytes.specs.Word.{word, signed_word}
use Rattle.fb_rules.specs.declared.checks.Checks.{Checks}

-- whether n bytes at p are in the buffer
abbrev pub fits : List ℕ → ℕ → ℕ → Bool
fits b p n = nat_le (p + n) (length b)

-- whether p is a multiple of its alignment, where that is checked
unfoldable pub is_aligned : Checks → ℕ → ℕ → Bool
is_aligned c p align = not c.alignment || (p % align == 0)

-- where the uoffset at p leads: so many bytes on from its own place
abbrev pub target : List ℕ → ℕ → ℕ
target b p = p + word b p 4

-- whether the place of the vtable of the table at t isn't negative
unfoldable pub has_vtable : List ℕ → ℕ → Bool
has_vtable b t = int_le (signed_word b t) (pos t)

-- that place: the table's, less the signed word that stands there
unfoldable pub vtable : List ℕ → ℕ → ℕ
vtable b t = nat_abs (pos t -ℤ signed_word b t)

-- the vtable's size in bytes, its first word
abbrev pub vtable_size : List ℕ → ℕ → ℕ
vtable_size b t = word b (vtable b t) 2

-- the size in bytes of what stands inline in the table, the vtable's second word
abbrev pub inline_size : List ℕ → ℕ → ℕ
inline_size b t = word b (vtable b t + 2) 2

-- whether the slot o lies in the vtable
abbrev pub has_slot : List ℕ → ℕ → ℕ → Bool
has_slot b t o = nat_le (o + 2) (vtable_size b t)

-- where the field with the slot o stands in the table at t, or that it is absent
unfoldable pub field_place : List ℕ → ℕ → ℕ → Option ℕ
field_place b t o =
    if has_slot b t o
    then (if word b (vtable b t + o) 2 == 0 then None else Some (t + word b (vtable b t + o) 2))
    else None

-- whether n bytes at p end within the inline size of the table at t, where that is checked
unfoldable pub ends_in_table : Checks → List ℕ → ℕ → ℕ → ℕ → Bool
ends_in_table c b t p n = not c.inline_size || nat_le (p + n) (t + inline_size b t)
