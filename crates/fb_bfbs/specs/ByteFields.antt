-- Fields of bytes, and whether a schema file says what each of them holds.
use Rattle.std.specs.Prelude.{◌≡◌, ◌==◌, ◌&&◌, not, ℕ, Bool, true, false, List, slice_get, Option, Some, None}
use Rattle.std.specs.List.{list_any}
use Rattle.fb_schema.specs.{declared.kinds.Kind.Kind, declared.kinds.Kind.TheVariants.Scalars, declared.kinds.Scalar.TheVariants.UByte, Live.Live, Live.live_fields}
use Rattle.fb_schema.specs.{Live.live_of_view, Rows.Rows}
use Rattle.fb_bfbs.specs.{Marks.Marked, declared.byte_fields.ByteField.ByteField, declared.marks.Builtins.Builtins, declared.marks.Builtins.TheVariants.Written}

-- a field of this kind is of bytes: a vector of ubyte
abbrev pub is_bytes : Kind → Bool
is_bytes (Scalars UByte) = true
is_bytes _ = false

-- a file shows that built-in attributes were written
abbrev pub are_written : Builtins → Bool
are_written Written = true
are_written _ = false

-- a live field is of bytes, and has this slot
abbrev pub is_at : ℕ → Live → Bool
is_at slot f = (f.slot == slot) && is_bytes f.kind

-- one of these marks is of this slot of an object
abbrev pub has_mark : List Marked → (object slot : ℕ) → Bool
has_mark marks object slot = list_any (λ (m : Marked). (m.object == object) && (m.slot == slot)) marks

-- a live field of an object is of bytes, and has no mark
abbrev pub is_unmarked : List Marked → ℕ → Live → Bool
is_unmarked marks object f = is_bytes f.kind && not (has_mark marks object f.slot)

-- a live field of an object passes a test
pub record IsField (rows : Rows) (object : ℕ) (P : Live → Bool) (f : Live) : Type 0 where
  pub place : ℕ
  pub at : slice_get (live_fields rows object) place ≡ Some f
  pub is : P f ≡ true

-- a field of bytes has no mark and might have one: the file doesn't show that it would be there
pub record LacksMark (rows : Rows) (marks : List Marked) (builtins : Builtins) (object : ℕ) (f : Live) : Type 0 where
  pub field : IsField rows object (is_unmarked marks object) f
  pub untold : are_written builtins ≡ false

abbrev pub HasUnmarked : Rows → List Marked → Builtins → Type 0
HasUnmarked rows marks builtins = (object : ℕ) × (f : Live) × LacksMark rows marks builtins object f

-- this field is such a one, and there is none where there is no field
abbrev pub IsUnmarked : Rows → List Marked → Builtins → Option ByteField → Type 0
IsUnmarked rows marks builtins (Some b) = LacksMark rows marks builtins b.table (live_of_view b.field)
IsUnmarked rows marks builtins None = HasUnmarked rows marks builtins → ⊥
