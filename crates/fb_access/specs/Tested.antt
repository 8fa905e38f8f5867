-- What is tested at a spot of bytes of which nobody knows that they are a good buffer's, or still are: what is read
-- there first lies in them.
use Rattle.std.specs.Prelude.{◌≡◌, ℕ, ◌+◌, ◌*◌, ◌<◌, ◌≤◌, List, length, IsTrue, Option, IfSome}
use Rattle.fb_schema.specs.{Rows.Rows, Rows.is_table, Rows.is_union, Kinds.scalar_size}
use Rattle.fb_rules.specs.declared.start.Start.{Start}
use Rattle.fb_verify.specs.Sealed.{Sealed, IsUnfolded}
use Rattle.fb_access.specs.declared.{spot.Spot.Spot, tested_value.Seen.Seen}
use Rattle.fb_access.specs.declared.spot.Spot.TheVariants.{AtTable, AtInline, AtStruct, AtText, AtScalars, AtStructs, AtScalarArray, AtStructArray, AtTexts, AtTables, AtUnions, AtUnion}
use Rattle.fb_access.specs.{Denotes.shown, Denotes.value, Extents.extent, Held.IsStructAt, Held.AreStructsFrom, Here.IsNarrow}

-- of a table its first four bytes; of a value in place, and of an array of these, all its bytes; of a string or a vector
-- its count, of a vector of unions also where the types begin; and what is named of the schema is there
unfoldable pub IsTested : List ℕ → Rows → Spot → Type 0
IsTested b S (AtTable k t) = IsTrue (is_table S k) × (t + 4 ≤ length b)
IsTested b S (AtInline s p) = p + scalar_size s ≤ length b
IsTested b S (AtStruct k p) = IsStructAt b S k p
IsTested b S (AtText c) = c + 4 ≤ length b
IsTested b S (AtScalars s c) = c + 4 ≤ length b
IsTested b S (AtStructs k c) = (k < length S.objects) × (c + 4 ≤ length b)
IsTested b S (AtScalarArray s n p) = p + n * scalar_size s ≤ length b
IsTested b S (AtStructArray k n p) = AreStructsFrom b S k n p
IsTested b S (AtTexts c) = c + 4 ≤ length b
IsTested b S (AtTables k c) = c + 4 ≤ length b
IsTested b S (AtUnions e q c) = (c + 4 ≤ length b) × (q ≤ length b)
IsTested b S (AtUnion e y p) = IsTrue (is_union S e)
IsTested b S _ = Unit {0}

-- the spot to which something leads that was tested
abbrev pub IsLedTo : List ℕ → Rows → Option Spot → Option Spot → Type 0
IsLedTo b S led o = (o ≡ led) × IfSome o (IsTested b S)

-- what is seen at a spot is its value, as wide as its scalar, and its bytes lie in these
pub record IsSeen (b : List ℕ) (S : Rows) (q : Spot) (seen : Seen) : Type 0 where
  pub shows : shown seen.answer ≡ value b S q
  pub narrow : IsNarrow q seen.answer
  pub stands : seen.extent ≡ extent b S q
  pub within : IfSome seen.extent (λ e. e.at + e.size ≤ length b)

-- these bytes aren't those of a buffer that was verified by these rows from this root, whatever was asked of it
abbrev pub IsOther : List ℕ → Rows → Start → ℕ → Type 0
IsOther b S start root = (v : Sealed) → v.bytes ≡ b → v.schema ≡ S → v.start ≡ start → v.root ≡ root → IsUnfolded v → ⊥
