-- Lines of JSON (RFC 8259): each is one value, as the kit's definition of such reads it, and a newline.
use Rattle.std.specs.Prelude.{◌≡◌, ℕ, ◌+◌, ◌≤◌, nat_lt, Bool, true, false, if◌then◌else◌, List, [], ◌∷◌, ◌++◌, Option, Some}
use Rattle.std.specs.Prelude.{None, codes, decimal, drop, from_bits, length, take, option_map, option_and_then, slice_get}
use Rattle.std.specs.{Fmt.signed_decimal, Str.is_utf8, Float.Float, Float.Format, Float.binary32, Float.binary64, Float.nan, Float.inf, Float.fin, Float.Parse.parse_float}
use Rattle.hex.specs.Hex.{encode_lower}
use Rattle.json.specs.{Json.Json, Json.null, Json.boolean, Json.number, Json.string, Json.object, Json.Members, Json.no_members, Json.member, Print.print, Print.print_from}
use Rattle.json.specs.Tree.{json_tokens, members_tokens}
use Rattle.ryu.specs.Plain.{IsLaidOutNumber}
use Rattle.fb_bytes.specs.Word.{word}
use Rattle.fb_schema.specs.Rows.{Rows}
use Rattle.fb_rules.specs.{Reasons.reason_number, Reasons.reason_text, declared.fault.Fault.Fault, declared.fault.Reason.Reason, declared.fault.Report.Report}
use Rattle.fb_access.specs.Denotes.{Shown, nothing, no_element, other_member, truth, signed, unsigned, float, default_float, default_double, text, structure, vector, table, union}
use Rattle.fb_access.specs.Location.{field_name}
use Rattle.fb_run.specs.declared.spot.Spot.{Spot}

-- the text of a value, without a space
unfoldable pub json_text : Json → List ℕ
json_text value = print (json_tokens value)

-- an object of one member
abbrev pub labelled : List ℕ → Json → Json
labelled key value = object (member key value no_members)

-- bytes as hexadecimal digits
abbrev pub digits_json : List ℕ → Json
digits_json bytes = string (encode_lower bytes)

-- a text: as it is where it is UTF-8, and by its bytes where it isn't
abbrev pub text_json : List ℕ → Json
text_json bytes = if is_utf8 bytes then string bytes else labelled (codes "bytes") (digits_json bytes)

-- the same of a name, where there is one
abbrev pub name_json : Option (List ℕ) → Json
name_json None = null
name_json (Some name) = text_json name

-- a whole number
abbrev pub count_json : ℕ → Json
count_json n = number (decimal n)

-- the value at the end of a path (of floats only those of an odd length, by their digits: see below)
abbrev pub value_json : Shown → Json
value_json nothing = null
value_json no_element = labelled (codes "absent") (string (codes "no-element"))
value_json other_member = labelled (codes "absent") (string (codes "other-member"))
value_json (truth holds) = boolean holds
value_json (signed z) = number (signed_decimal z)
value_json (unsigned n) = count_json n
value_json (float bytes) = labelled (codes "float") (digits_json bytes)
value_json (default_float bits) = null
value_json (default_double bits) = null
value_json (text bytes) = text_json bytes
value_json (structure bytes) = labelled (codes "struct") (digits_json bytes)
value_json (vector count) = labelled (codes "vector") (count_json count)
value_json table = labelled (codes "table") (boolean true)
value_json (union n) = labelled (codes "union") (count_json n)

-- the most digits before the point, and the most zeros behind it, that a number has without an exponent
abbrev pub most_digits : Format → ℕ
most_digits binary32 = 13
most_digits binary64 = 16

abbrev pub most_zeros : Format → ℕ
most_zeros binary32 = 5
most_zeros binary64 = 4

-- a number of RFC 8259 of at most 25 bytes that reads as this float, with an exponent just where it has more of those
pub record IsNumeral (format : Format) (real : Float) (text : List ℕ) : Type 0 where
  pub reads : parse_float format text ≡ Some real
  pub layout : IsLaidOutNumber (most_digits format) (most_zeros format) text
  pub short : length text ≤ 25

-- a float: such a number, or a word where it is none
abbrev pub IsReal : Format → Float → Json → Type 0
IsReal format nan value = value ≡ string (codes "NaN")
IsReal format (inf false) value = value ≡ string (codes "Infinity")
IsReal format (inf true) value = value ≡ string (codes "-Infinity")
IsReal format (fin negative m e) value = (text : List ℕ) × IsNumeral format (fin negative m e) text × (value ≡ number text)

-- the same by its bytes, the lowest first: a Float has four, and a Double eight
pub record IsFloat (bytes : List ℕ) (value : Json) : Type 0 where
  pub single : length bytes ≡ 4 → IsReal binary32 (from_bits binary32 (word bytes 0 4)) value
  pub double : length bytes ≡ 8 → IsReal binary64 (from_bits binary64 (word bytes 0 8)) value
  pub neither : (length bytes ≡ 4 → ⊥) → (length bytes ≡ 8 → ⊥) → value ≡ value_json (float bytes)

-- a value as a line has it; a float that isn't in the buffer has its default's bits
abbrev pub IsValue : Shown → Json → Type 0
IsValue (float bytes) value = IsFloat bytes value
IsValue (default_float bits) value = IsReal binary32 (from_bits binary32 bits) value
IsValue (default_double bits) value = IsReal binary64 (from_bits binary64 bits) value
IsValue shown value = value ≡ value_json shown

-- the values of some paths, each by the text of its path
abbrev pub AreValues : List (List ℕ) → List Shown → Members → Type 0
AreValues (path ∷ paths) (shown ∷ rest) members =
    (value : Json) × (others : Members) × IsValue shown value × AreValues paths rest others × (members ≡ member path value others)
AreValues _ _ members = members ≡ no_members

-- what a line has of values: nothing where no path is asked for
abbrev pub IsValuesMember : List (List ℕ) → List Shown → Members → Type 0
IsValuesMember [] shown member_of = member_of ≡ no_members
IsValuesMember (path ∷ paths) shown member_of =
    (values : Members) × AreValues (path ∷ paths) shown values × (member_of ≡ member (codes "values") (object values) no_members)

-- the message's number, where it begins in the input, and its length
abbrev pub spot_members : Spot → Members → Members
spot_members spot rest = member (codes "message") (count_json spot.number) (member (codes "begin") (count_json spot.begin) (member (codes "bytes") (count_json spot.bytes) rest))

-- what every line begins with: the input's name, where it has one, and where the message stands
abbrev pub line_json : Option (List ℕ) → Spot → Members → Json
line_json None spot rest = object (spot_members spot rest)
line_json (Some file) spot rest = object (member (codes "file") (text_json file) (spot_members spot rest))

-- what the line of a yes has behind that
abbrev pub yes_members : Report → Members → Members
yes_members report values =
    member (codes "ok") (boolean true)
    (member (codes "tables") (count_json report.tables)
    (member (codes "depth") (count_json report.depth)
    (member (codes "reads") (count_json report.reads) values)))

-- the code of a reason, and its name
abbrev pub code_length : Reason → ℕ
code_length reason = if nat_lt (reason_number reason) 10 then 2 else 3

abbrev pub code_of : Reason → List ℕ
code_of reason = take (code_length reason) (reason_text reason)

abbrev pub name_of : Reason → List ℕ
name_of reason = drop (code_length reason + 1) (reason_text reason)

-- the names of a fault's object and field
abbrev pub object_of : Rows → Fault → Option (List ℕ)
object_of rows fault = option_map (λ o. o.name) (slice_get rows.objects fault.object)

abbrev pub field_of : Rows → Fault → Option (List ℕ)
field_of rows fault = option_and_then (field_name rows fault.object) fault.field

-- where the fault is in words, if these are asked for
abbrev pub place_member : Option (List ℕ) → Members
place_member None = no_members
place_member (Some place) = member (codes "place") (text_json place) no_members

-- what the line of a no has behind that
abbrev pub no_members_of : Rows → Fault → Option (List ℕ) → Members
no_members_of rows fault place =
    member (codes "ok") (boolean false)
    (member (codes "code") (string (code_of fault.reason))
    (member (codes "reason") (string (name_of fault.reason))
    (member (codes "at") (count_json fault.at)
    (member (codes "object") (name_json (object_of rows fault))
    (member (codes "field") (name_json (field_of rows fault))
    (member (codes "reads") (count_json fault.reads)
    (place_member place)))))))

-- the lines of a yes and of a no on the message there
abbrev pub json_yes : Option (List ℕ) → Spot → Report → Members → List ℕ
json_yes file spot report values = json_text (line_json file spot (yes_members report values)) ++ codes "\n"

abbrev pub IsYes : Option (List ℕ) → Spot → Report → List (List ℕ) → List Shown → List ℕ → Type 0
IsYes file spot report paths shown line = (values : Members) × IsValuesMember paths shown values × (line ≡ json_yes file spot report values)

abbrev pub json_no : Option (List ℕ) → Spot → Rows → Fault → Option (List ℕ) → List ℕ
json_no file spot rows fault place = json_text (line_json file spot (no_members_of rows fault place)) ++ codes "\n"

-- ---- by the parts that are written

-- members up to the brace that closes their object: behind another one, or as its first
unfoldable pub members_text : Bool → Members → List ℕ
members_text behind members = print_from behind (members_tokens members)

abbrev pub following : Members → List ℕ
following members = members_text true members

-- one member
abbrev pub member_part : Bool → List ℕ → Json → List ℕ
member_part behind key value = (if behind then codes "," else []) ++ (json_text (string key) ++ (codes ":" ++ json_text value))

-- where a message stands
abbrev pub spot_part : Spot → List ℕ
spot_part spot = decimal spot.number ++ (codes ",\"begin\":" ++ (decimal spot.begin ++ (codes ",\"bytes\":" ++ decimal spot.bytes)))

-- what every line begins with
abbrev pub begin_part : Option (List ℕ) → Spot → List ℕ
begin_part None spot = codes "{\"message\":" ++ spot_part spot
begin_part (Some file) spot = codes "{\"file\":" ++ (json_text (text_json file) ++ (codes ",\"message\":" ++ spot_part spot))

-- what a yes counted
abbrev pub counts_part : Report → List ℕ
counts_part report =
    codes ",\"ok\":true,\"tables\":" ++ (decimal report.tables ++ (codes ",\"depth\":" ++ (decimal report.depth ++ (codes ",\"reads\":" ++ decimal report.reads))))

-- the reason of a no
abbrev pub reason_part : Reason → List ℕ
reason_part reason = codes ",\"ok\":false,\"code\":" ++ (json_text (string (code_of reason)) ++ (codes ",\"reason\":" ++ json_text (string (name_of reason))))

-- the names of its object and field
abbrev pub names_part : Rows → Fault → List ℕ
names_part rows fault = codes ",\"object\":" ++ (json_text (name_json (object_of rows fault)) ++ (codes ",\"field\":" ++ json_text (name_json (field_of rows fault))))

-- its reads, and its place in words, where there is one
abbrev pub end_part : ℕ → Option (List ℕ) → List ℕ
end_part reads place = (codes ",\"reads\":" ++ decimal reads) ++ following (place_member place)
