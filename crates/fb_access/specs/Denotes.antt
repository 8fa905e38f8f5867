-- What a path denotes in a buffer: a chain of spots from the root table, one for each step, and the value at its end.
use Rattle.std.specs.Prelude.{◌≡◌, ℕ, ℤ, ◌+◌, ◌%◌, ◌^◌, ◌==◌, Bool, true, not, List, [], ◌∷◌, take, drop, to_bits, from_bits, Option, Some, None, is_some}
use Rattle.std.specs.{Int.cast_signed, Int.cast_unsigned, Int.w8, Int.w16, Int.w32, Int.w64, Float.binary32, Float.binary64, Float.round_to_format}
use Rattle.fb_bytes.specs.Word.{word}
use Rattle.fb_schema.specs.declared.kinds.Scalar.TheVariants.{Bool as AsBool, Byte, Short, Int as AsInt, Long, Float as AsFloat, Double}
use Rattle.fb_schema.specs.{Rows.Rows, Kinds.scalar_size, Kinds.struct_size, declared.kinds.Scalar.Scalar, declared.kinds.Kind.Kind}
use Rattle.fb_rules.specs.{Places.target, WellFormed.base, declared.start.Start.Start}
use Rattle.fb_access.specs.declared.{step.Step.Step, step.Step.TheVariants.Field, step.Step.TheVariants.Element, step.Step.TheVariants.Member, spot.Spot.Spot, answer.Answer.Answer}
use Rattle.fb_access.specs.declared.spot.Spot.TheVariants.{AtTable, AtInline, AtStruct, AtText, AtScalars, AtStructs, AtScalarArray, AtStructArray, AtTexts, AtTables, AtUnions}
use Rattle.fb_access.specs.declared.spot.Spot.TheVariants.{AtUnion, AtDefault, AtAbsent, AtNoElement, AtOtherMember}
use Rattle.fb_access.specs.declared.answer.Answer.TheVariants as answer
use Rattle.fb_access.specs.{Fitting.next_kind, Spots.kind_at, Spots.spot_of_field, Spots.spot_of_element, Spots.spot_of_member}

-- where a step leads from here; where nothing is, every step stays
unfoldable pub next_spot : List ℕ → Rows → Spot → Step → Option Spot
next_spot b S AtAbsent s = Some AtAbsent
next_spot b S AtNoElement s = Some AtNoElement
next_spot b S AtOtherMember s = Some AtOtherMember
next_spot b S p (Field n) = spot_of_field b S p n
next_spot b S p (Element j) = spot_of_element b S p j
next_spot b S p (Member m) = spot_of_member b S p m

-- a step leads from this spot to that one
abbrev pub Leads : List ℕ → Rows → Spot → Step → Spot → Type 0
Leads b S p s q = next_spot b S p s ≡ Some q

-- whether a kind has this step; where nothing is, every step is allowed
abbrev pub allowed_from : Rows → Step → Option Kind → Bool
allowed_from S s None = true
allowed_from S s (Some kind) = is_some (next_kind S kind s)

-- whether what is here allows this step
abbrev pub allows : Rows → Spot → Step → Bool
allows S p s = allowed_from S s (kind_at p)

-- the steps lead from this spot to that one
abbrev pub Reaches : List ℕ → Rows → Spot → List Step → Spot → Type 0
Reaches b S p [] q = p ≡ q
Reaches b S p (s ∷ steps) q = (m : Spot) × Leads b S p s m × Reaches b S m steps q

-- what an answer shows
pub data Shown : Type 0 where
  nothing : Shown
  no_element : Shown
  other_member : Shown
  truth : Bool → Shown
  signed : ℤ → Shown
  unsigned : ℕ → Shown
  float : List ℕ → Shown
  default_float : ℕ → Shown
  default_double : ℕ → Shown
  text : List ℕ → Shown
  structure : List ℕ → Shown
  vector : ℕ → Shown
  table : Shown
  union : ℕ → Shown

-- an answer without where its bytes lie in memory
abbrev pub shown : Answer → Shown
shown answer.Absent = nothing
shown answer.NoElement = no_element
shown answer.OtherMember = other_member
shown (answer.Bool v) = truth v
shown (answer.Int z) = signed z
shown (answer.UInt n) = unsigned n
shown (answer.Float s) = float s.now
shown (answer.DefaultFloat bits) = default_float bits
shown (answer.DefaultDouble bits) = default_double bits
shown (answer.Text s) = text s.now
shown (answer.Struct s) = structure s.now
shown (answer.Vector n) = vector n
shown answer.Table = table
shown (answer.Union y) = union y

-- the number of a scalar whose bytes are n, the lowest first; a float is shown by its bytes or its bits, and has none
unfoldable pub number : Scalar → ℕ → Shown
number AsBool n = truth (not (n == 0))
number Byte n = signed (cast_signed w8 n)
number Short n = signed (cast_signed w16 n)
number AsInt n = signed (cast_signed w32 n)
number Long n = signed (cast_signed w64 n)
number AsFloat n = nothing
number Double n = nothing
number _ n = unsigned n

-- the n bytes at p
abbrev pub bytes_at : List ℕ → ℕ → ℕ → List ℕ
bytes_at b p n = take n (drop p b)

-- a scalar at p
unfoldable pub inline_value : List ℕ → ℕ → Scalar → Shown
inline_value b p AsFloat = float (bytes_at b p 4)
inline_value b p Double = float (bytes_at b p 8)
inline_value b p s = number s (word b p (scalar_size s))

-- the bits of the single that is nearest to the double of these bits
abbrev pub nearest_single : ℕ → ℕ
nearest_single bits = to_bits binary32 (round_to_format binary32 (from_bits binary64 bits))

-- the default of a scalar that is absent: of a Float or Double it is the bits of a double, and of all others the lowest
-- bytes, as many as the scalar has, are its number
unfoldable pub default_value : Scalar → ℤ → Shown
default_value AsFloat d = default_float (nearest_single (cast_unsigned w64 d))
default_value Double d = default_double (cast_unsigned w64 d)
default_value s d = number s (cast_unsigned w64 d % 256 ^ scalar_size s)

-- the value at a spot
unfoldable pub value : List ℕ → Rows → Spot → Shown
value b S (AtTable k t) = table
value b S (AtInline s p) = inline_value b p s
value b S (AtStruct k p) = structure (bytes_at b p (struct_size S k))
value b S (AtText c) = text (bytes_at b (c + 4) (word b c 4))
value b S (AtScalars s c) = vector (word b c 4)
value b S (AtStructs k c) = vector (word b c 4)
value b S (AtScalarArray s n p) = vector n
value b S (AtStructArray k n p) = vector n
value b S (AtTexts c) = vector (word b c 4)
value b S (AtTables k c) = vector (word b c 4)
value b S (AtUnions e q c) = vector (word b c 4)
value b S (AtUnion e y p) = union y
value b S (AtDefault s d) = default_value s d
value b S AtAbsent = nothing
value b S AtNoElement = no_element
value b S AtOtherMember = other_member

-- the root table of a buffer that begins so
abbrev pub root_spot : List ℕ → Start → ℕ → Spot
root_spot b start root = AtTable root (target b (base start))

-- from the root table these steps lead to a spot with this value
abbrev pub Denotes : List ℕ → Rows → Start → ℕ → List Step → Shown → Type 0
Denotes b S start root steps x = (q : Spot) × Reaches b S (root_spot b start root) steps q × (x ≡ value b S q)
