-- What C is told of a value.
use Rattle.std.specs.Prelude.{◌≡◌, ℕ, ◌<◌, pos, List, length, slice_index_or, to_bits, from_bits, Bool, true, false, Option, Some, None, IsSomeAnd}
use Rattle.std.specs.Float.{binary32, binary64}
use Rattle.fb_schema.specs.Rows.{Rows}
use Rattle.fb_rules.specs.declared.start.Start.{Start}
use Rattle.fb_access.specs.{Denotes.Shown, Denotes.value, Extents.extent, declared.extent.Extent.Extent, declared.spot.Spot.Spot}
use Rattle.fb_access.specs.Denotes as denotes
use Rattle.fbcheck_calls.specs.{Steps.EndAt, Steps.steps_in, declared.steps.PlainPath.PlainPath, declared.values.Value.Value}

-- a kind, and no more
abbrev pub plain : ℕ → Value
plain kind = record { kind = kind; reserved = 0; number = 0; integer = pos 0; at = 0; size = 0 }

abbrev pub numbered : ℕ → ℕ → Value
numbered kind number = record (plain kind) { number = number }

-- 1 for true
abbrev pub bit : Bool → ℕ
bit true = 1
bit false = 0

-- the bits of the double that is the single of these bits
abbrev pub widened : ℕ → ℕ
widened bits = to_bits binary64 (from_bits binary32 bits)

-- a value in numbers, without where it stands; a default is told by the bits of a double
abbrev pub value_told : Shown → Value
value_told denotes.nothing = plain 0
value_told denotes.no_element = plain 1
value_told denotes.other_member = plain 2
value_told (denotes.truth v) = numbered 3 (bit v)
value_told (denotes.signed z) = record (plain 4) { integer = z }
value_told (denotes.unsigned n) = numbered 5 n
value_told (denotes.float s) = plain 6
value_told (denotes.default_float bits) = numbered 12 (widened bits)
value_told (denotes.default_double bits) = numbered 12 bits
value_told (denotes.text s) = plain 7
value_told (denotes.structure s) = plain 8
value_told (denotes.vector n) = numbered 9 n
value_told denotes.table = plain 10
value_told (denotes.union y) = numbered 11 y

-- a value with where its bytes stand, if it has any
abbrev pub placed : Value → Option Extent → Value
placed v None = v
placed v (Some e) = record v { at = e.at; size = e.size }

-- what is told of the value at a spot
abbrev pub value_at : List ℕ → Rows → Spot → Value
value_at b S q = placed (value_told (value b S q)) (extent b S q)

-- a value is what stands at the end of a path from the root table
abbrev pub IsValueOf : List ℕ → Rows → Start → ℕ → PlainPath → Value → Type 0
IsValueOf b S start root p v = IsSomeAnd (steps_in p) (λ plain. (q : Spot) × EndAt b S start root plain q × (v ≡ value_at b S q))

-- the value at each place is that of the path at this place
abbrev pub AreValues : List ℕ → Rows → Start → ℕ → List PlainPath → List Value → Type 0
AreValues b S start root paths values = (k : ℕ) → k < length paths → k < length values
    → (p : PlainPath) (v : Value) → IsValueOf b S start root (slice_index_or paths k p) (slice_index_or values k v)
