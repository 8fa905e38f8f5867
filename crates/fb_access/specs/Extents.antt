-- Where the bytes of a value stand in a buffer.
use Rattle.std.specs.Prelude.{ℕ, ◌+◌, ◌*◌, List, Option, Some, None}
use Rattle.fb_bytes.specs.Word.{word}
use Rattle.fb_schema.specs.{Rows.Rows, Kinds.scalar_size, Kinds.struct_size, declared.kinds.Scalar.Scalar, declared.kinds.Scalar.TheVariants.Float, declared.kinds.Scalar.TheVariants.Double}
use Rattle.fb_access.specs.declared.{extent.Extent.Extent, spot.Spot.Spot}
use Rattle.fb_access.specs.declared.spot.Spot.TheVariants.{AtInline, AtStruct, AtText, AtScalars, AtStructs, AtScalarArray, AtStructArray}

-- so many bytes from p on
abbrev pub bytes_from : ℕ → ℕ → Extent
bytes_from p n = record { at = p; size = n }

-- the elements, of so many bytes each, of the vector whose count stands at c
abbrev pub elements_at : List ℕ → ℕ → ℕ → Extent
elements_at b c size = bytes_from (c + 4) (word b c 4 * size)

-- the bytes of a scalar that is shown by its bytes
abbrev pub scalar_extent : Scalar → ℕ → Option Extent
scalar_extent Float p = Some (bytes_from p 4)
scalar_extent Double p = Some (bytes_from p 8)
scalar_extent _ p = None

-- the bytes of a float, a struct, a string without its terminator, and of the elements of a vector or array of scalars
-- or structs; nothing else has bytes of its own
unfoldable pub extent : List ℕ → Rows → Spot → Option Extent
extent b S (AtInline s p) = scalar_extent s p
extent b S (AtStruct k p) = Some (bytes_from p (struct_size S k))
extent b S (AtText c) = Some (elements_at b c 1)
extent b S (AtScalars s c) = Some (elements_at b c (scalar_size s))
extent b S (AtStructs k c) = Some (elements_at b c (struct_size S k))
extent b S (AtScalarArray s n p) = Some (bytes_from p (n * scalar_size s))
extent b S (AtStructArray k n p) = Some (bytes_from p (n * struct_size S k))
extent b S _ = None
