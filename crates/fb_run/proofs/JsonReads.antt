-- The lines of JSON read back.
use Rattle.std.proofs.Common.{◌≡◌, ℕ, ℤ, suc, pos, negsuc, ◌<◌, ◌≤◌, ◌^◌, Bool, true, false, List, [], ◌∷◌, Option, Some, None, ◌++◌, codes, decimal, get_or, length, inl, inr, arith, sym, ap, subst, ◌∙◌}
use Rattle.std.specs.Prelude.{if◌then◌else◌, unsigned_abs}
use Rattle.std.specs.{Float.Float, Float.Format, Float.binary32, Float.binary64, Float.nan, Float.inf, Float.fin, Fmt.signed_decimal, Fmt.sign_text, List.AllByRecursion}
use Rattle.std.specs.Str.{is_utf8}
use Rattle.std.proofs.lemmas.{Bool.cases_eq, Bool.ne_eqb, Fmt.first_decimal}
use Rattle.json.specs.{Json.Json, Json.string, Json.Members, Json.no_members, Print.IsNumber, Tree.depth, Tree.members_depth, Tree.HasNumbers, Tree.MembersHaveNumbers}
use Rattle.json.specs.Word.{after_number}
use Rattle.json.proofs.Printed.{Decimals.IsNumber-decimal, Floats.IsNumber-plain, Trees.document-print}
use Rattle.fb_access.specs.Denotes.{Shown, nothing, no_element, other_member, truth, signed, unsigned, float, default_float, default_double, text, structure, vector, table, union}
use Rattle.fb_run.specs.Json.{AreValues, IsReal, IsValue, IsValuesMember, digits_json, field_of, json_text, labelled, line_json, name_json, no_members_of, object_of, place_member}
use Rattle.fb_run.specs.{Json.spot_members, Json.text_json, Json.value_json, Json.yes_members, Spot.IsShort, declared.spot.Spot.Spot, JsonLaws.HasFewBits, JsonLaws.NoReadsBack}
use Rattle.fb_run.specs.JsonLaws.{ReadsBack, YesReadsBack}

-- a value whose numbers are such, and within one object
record IsPlain (value : Json) : Type 0 where
  numbers : HasNumbers value
  shallow : depth value ≤ 1

either_plain : (b : Bool) (bytes : List ℕ) → IsPlain (if b then string bytes else labelled (codes "bytes") (digits_json bytes))
either_plain true bytes = record { numbers = tt; shallow = omega arith }
either_plain false bytes = record { numbers = (tt, tt); shallow = omega arith }

text_plain : (bytes : List ℕ) → IsPlain (text_json bytes)
text_plain bytes = either_plain (is_utf8 bytes) bytes

name_plain : (name : Option (List ℕ)) → IsPlain (name_json name)
name_plain None = record { numbers = tt; shallow = omega arith }
name_plain (Some name) = text_plain name

-- a whole number with its sign
negative : (t : List ℕ) → 48 < get_or t 0 0 → IsNumber t → IsNumber (45 ∷ t)
unfolding after_number
negative [] first is = absurd (omega arith)
negative (d ∷ ds) first is = let no_sign = ne_eqb d 45 (λ e. omega arith) in rw no_sign at is

signed_number : (z : ℤ) → unsigned_abs z ≤ 2 ^ 63 → IsNumber (signed_decimal z)
signed_number (pos n) few = IsNumber-decimal n (omega arith)
signed_number (negsuc n) few = negative (decimal (suc n)) (first_decimal (suc n) (omega arith) (omega arith)) (IsNumber-decimal (suc n) (omega arith))

-- a float
real_plain : (f : Format) (x : Float) (value : Json) → IsReal f x value → IsPlain value
real_plain f nan value is = subst IsPlain (sym is) (record { numbers = tt; shallow = omega arith })
real_plain f (inf false) value is = subst IsPlain (sym is) (record { numbers = tt; shallow = omega arith })
real_plain f (inf true) value is = subst IsPlain (sym is) (record { numbers = tt; shallow = omega arith })
real_plain f (fin s m e) value (numeral, read, is) =
    let (negative, size, at, (parts, size_is, plain, laid)) = read.layout in
    subst IsPlain (sym is) (record { numbers = IsNumber-plain numeral (negative, parts, at ∙ ap (λ l. sign_text negative ++ l) size_is, plain); shallow = omega arith })

-- the value of a path
shown_plain : (shown : Shown) → HasFewBits shown → IsPlain (value_json shown)
shown_plain nothing few = record { numbers = tt; shallow = omega arith }
shown_plain no_element few = record { numbers = (tt, tt); shallow = omega arith }
shown_plain other_member few = record { numbers = (tt, tt); shallow = omega arith }
shown_plain (truth b) few = record { numbers = tt; shallow = omega arith }
shown_plain (signed z) few = record { numbers = signed_number z few; shallow = omega arith }
shown_plain (unsigned n) few = record { numbers = IsNumber-decimal n few; shallow = omega arith }
shown_plain (float bytes) few = record { numbers = (tt, tt); shallow = omega arith }
shown_plain (default_float bits) few = record { numbers = tt; shallow = omega arith }
shown_plain (default_double bits) few = record { numbers = tt; shallow = omega arith }
shown_plain (text bytes) few = text_plain bytes
shown_plain (structure bytes) few = record { numbers = (tt, tt); shallow = omega arith }
shown_plain (vector count) few = record { numbers = (IsNumber-decimal count few, tt); shallow = omega arith }
shown_plain table few = record { numbers = (tt, tt); shallow = omega arith }
shown_plain (union n) few = record { numbers = (IsNumber-decimal n few, tt); shallow = omega arith }

value_plain : (shown : Shown) (value : Json) → HasFewBits shown → IsValue shown value → IsPlain value
value_plain (float bytes) value few is = elim (cases_eq (length bytes) 4) [
  | inl four ↦ real_plain binary32 _ value (is.single four)
  | inr not_four ↦ elim (cases_eq (length bytes) 8) [
    | inl eight ↦ real_plain binary64 _ value (is.double eight)
    | inr not_eight ↦ subst IsPlain (sym (is.neither not_four not_eight)) (shown_plain (float bytes) few)
  ]
]
value_plain (default_float bits) value few is = real_plain binary32 _ value is
value_plain (default_double bits) value few is = real_plain binary64 _ value is
value_plain nothing value few is = subst IsPlain (sym is) (shown_plain nothing few)
value_plain no_element value few is = subst IsPlain (sym is) (shown_plain no_element few)
value_plain other_member value few is = subst IsPlain (sym is) (shown_plain other_member few)
value_plain (truth b) value few is = subst IsPlain (sym is) (shown_plain (truth b) few)
value_plain (signed z) value few is = subst IsPlain (sym is) (shown_plain (signed z) few)
value_plain (unsigned n) value few is = subst IsPlain (sym is) (shown_plain (unsigned n) few)
value_plain (text bytes) value few is = subst IsPlain (sym is) (shown_plain (text bytes) few)
value_plain (structure bytes) value few is = subst IsPlain (sym is) (shown_plain (structure bytes) few)
value_plain (vector count) value few is = subst IsPlain (sym is) (shown_plain (vector count) few)
value_plain table value few is = subst IsPlain (sym is) (shown_plain table few)
value_plain (union n) value few is = subst IsPlain (sym is) (shown_plain (union n) few)

-- and so of members, which are within two
record ArePlain (most : ℕ) (members : Members) : Type 0 where
  numbers : MembersHaveNumbers members
  shallow : members_depth members ≤ most

none_plain : (most : ℕ) {members : Members} → members ≡ no_members → ArePlain most members
none_plain most is = subst (ArePlain most) (sym is) (record { numbers = tt; shallow = omega arith })

values_plain : (paths : List (List ℕ)) (shown : List Shown) (values : Members) → AllByRecursion HasFewBits shown → AreValues paths shown values → ArePlain 1 values
values_plain [] shown values few is = none_plain 1 is
values_plain (path ∷ paths) [] values few is = none_plain 1 is
values_plain (path ∷ paths) (shown ∷ rest) values few (value, others, one, are, is) =
    let first = value_plain shown value few.0 one in
    let more = values_plain paths rest others few.1 are in
    subst (ArePlain 1) (sym is) (record { numbers = (first.numbers, more.numbers); shallow = omega (arith, first.shallow, more.shallow) })

member_plain : (paths : List (List ℕ)) (shown : List Shown) (values : Members) → AllByRecursion HasFewBits shown → IsValuesMember paths shown values → ArePlain 2 values
member_plain [] shown values few is = none_plain 2 is
member_plain (path ∷ paths) shown values few (inner, are, is) =
    let each = values_plain (path ∷ paths) shown inner few are in
    subst (ArePlain 2) (sym is) (record { numbers = (each.numbers, tt); shallow = omega (arith, each.shallow) })

reads : (value : Json) → HasNumbers value → depth value ≤ 3 → ReadsBack value
unfolding json_text
reads value numbers shallow = document-print value numbers (omega arith)

spot_numbers : (spot : Spot) (rest : Members) → IsShort spot → MembersHaveNumbers rest → MembersHaveNumbers (spot_members spot rest)
spot_numbers spot rest few numbers = (IsNumber-decimal spot.number few.number, (IsNumber-decimal spot.begin few.begin, (IsNumber-decimal spot.bytes few.bytes, numbers)))

line_reads : (file : Option (List ℕ)) (spot : Spot) (rest : Members) → IsShort spot → ArePlain 2 rest → ReadsBack (line_json file spot rest)
line_reads None spot rest few plain = reads (line_json None spot rest) (spot_numbers spot rest few plain.numbers) (omega (arith, plain.shallow))
line_reads (Some file) spot rest few plain =
    let name = text_plain file in
    reads (line_json (Some file) spot rest) (name.numbers, spot_numbers spot rest few plain.numbers) (omega (arith, plain.shallow, name.shallow))

pub yes_reads : YesReadsBack
yes_reads file spot report paths shown values few tables depth reads each are =
    let end = member_plain paths shown values each are in
    line_reads file spot (yes_members report values) few (record {
      numbers = (tt, (IsNumber-decimal report.tables tables, (IsNumber-decimal report.depth depth, (IsNumber-decimal report.reads reads, end.numbers))));
      shallow = omega (arith, end.shallow);
    })

place_plain : (place : Option (List ℕ)) → ArePlain 2 (place_member place)
place_plain None = record { numbers = tt; shallow = omega arith }
place_plain (Some place) = let text = text_plain place in record { numbers = (text.numbers, tt); shallow = omega (arith, text.shallow) }

pub no_reads : NoReadsBack
no_reads file spot rows fault place few at reads =
    let object = name_plain (object_of rows fault) in
    let field = name_plain (field_of rows fault) in
    let end = place_plain place in
    line_reads file spot (no_members_of rows fault place) few (record {
      numbers = (tt, (tt, (tt, (IsNumber-decimal fault.at at, (object.numbers, (field.numbers, (IsNumber-decimal fault.reads reads, end.numbers)))))));
      shallow = omega (arith, object.shallow, field.shallow, end.shallow);
    })
