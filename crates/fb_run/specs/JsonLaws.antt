-- What a reader of JSON gets of a line.
use Rattle.std.specs.Prelude.{◌≡◌, ℕ, ◌<◌, ◌≤◌, ◌^◌, List, Option, Some, length, option_map, slice_index, to_bits, unsigned_abs, ⊤}
use Rattle.std.specs.{Float.binary32, Float.binary64, List.AllByRecursion, Float.Parse.parse_float}
use Rattle.json.specs.Json.{Json, Members, document, number}
use Rattle.fb_bytes.specs.Word.{word}
use Rattle.fb_schema.specs.Rows.{Rows}
use Rattle.fb_rules.specs.declared.fault.{Fault.Fault, Report.Report}
use Rattle.fb_access.specs.Denotes.{Shown, default_float, default_double, signed, unsigned, vector, union}
use Rattle.fb_run.specs.{Json.IsFloat, Json.IsValue, Json.IsValuesMember, Json.json_text, Json.line_json, Json.no_members_of, Json.yes_members, Spot.IsShort}
use Rattle.fb_run.specs.declared.spot.Spot.{Spot}

-- by the grammar of RFC 8259 the text of this value is that value
abbrev pub ReadsBack : Json → Type 0
ReadsBack value = document (json_text value) ≡ Some value

-- a value whose whole number, if it has one, has at most 64 bits
abbrev pub HasFewBits : Shown → Type 0
HasFewBits (signed z) = unsigned_abs z ≤ 2 ^ 63
HasFewBits (unsigned n) = n < 2 ^ 64
HasFewBits (vector count) = count < 2 ^ 64
HasFewBits (union n) = n < 2 ^ 64
HasFewBits _ = ⊤

-- the line of a yes, where its numbers have at most 64 bits
abbrev pub YesReadsBack : Type 0
YesReadsBack = (file : Option (List ℕ)) (spot : Spot) (report : Report) (paths : List (List ℕ)) (shown : List Shown) (values : Members)
    → IsShort spot → report.tables < 2 ^ 64 → report.depth < 2 ^ 64 → report.reads < 2 ^ 64 → AllByRecursion HasFewBits shown → IsValuesMember paths shown values
    → ReadsBack (line_json file spot (yes_members report values))

-- and that of a no
abbrev pub NoReadsBack : Type 0
NoReadsBack = (file : Option (List ℕ)) (spot : Spot) (rows : Rows) (fault : Fault) (place : Option (List ℕ)) → IsShort spot → fault.at < 2 ^ 64 → fault.reads < 2 ^ 64
    → ReadsBack (line_json file spot (no_members_of rows fault place))

-- the float that a reader makes of a number has the very bits of that which stood in the buffer
pub record ReadsAs (bytes text : List ℕ) : Type 0 where
  pub single : length bytes ≡ 4 → option_map (to_bits binary32) (parse_float binary32 text) ≡ Some (word bytes 0 4)
  pub double : length bytes ≡ 8 → option_map (to_bits binary64) (parse_float binary64 text) ≡ Some (word bytes 0 8)

abbrev pub FloatsReadBack : Type 0
FloatsReadBack = (bytes text : List ℕ) → ((i : ℕ) → slice_index bytes i < 256) → IsFloat bytes (number text) → ReadsAs bytes text

-- and so has the float that a reader makes of the number of a default
pub record DefaultsReadBack : Type 0 where
  pub single : (bits : ℕ) (text : List ℕ) → bits < 2 ^ 32 → IsValue (default_float bits) (number text) → option_map (to_bits binary32) (parse_float binary32 text) ≡ Some bits
  pub double : (bits : ℕ) (text : List ℕ) → bits < 2 ^ 64 → IsValue (default_double bits) (number text) → option_map (to_bits binary64) (parse_float binary64 text) ≡ Some bits
