-- How the values at the ends of paths are written, and the name of an input.
use Rattle.std.specs.Prelude.{ℕ, List, [], ◌∷◌, ◌++◌, Option, Some, None, ◌==◌, ◌||◌, nat_lt, true, false, if◌then◌else◌, codes, decimal}
use Rattle.std.specs.{Fmt.signed_decimal, List.flat_map}
use Rattle.hex.specs.Hex.{encode_lower}
use Rattle.json.specs.Print.{escape_byte}
use Rattle.fb_run.specs.declared.value_text.Spelling.{Spelling, TheVariants.Quoted, TheVariants.Json, TheVariants.Digits, TheVariants.Doubled}
use Rattle.fb_access.specs.{declared.answer.Answer.Answer, Denotes.Shown, Denotes.shown, Denotes.nothing, Denotes.no_element, Denotes.other_member, Denotes.truth, Denotes.signed}
use Rattle.fb_access.specs.Denotes.{unsigned, float, default_float, default_double, text, structure, vector, table, union}

-- a byte of a text: a quote and a backslash stand behind a backslash, and what isn't printable ASCII as two hexadecimal
-- digits
abbrev pub byte_text : ℕ → List ℕ
byte_text b =
    if b == 34 || b == 92 then 92 ∷ b ∷ []
    else if nat_lt b 32 || nat_lt 126 b then codes "\\x" ++ encode_lower (b ∷ [])
    else b ∷ []

-- a byte of a string of CSV: a quote stands twice
abbrev pub doubled : ℕ → List ℕ
doubled b = if b == 34 then 34 ∷ 34 ∷ [] else b ∷ []

-- a byte of a value, by how its bytes are written
abbrev pub spelled : Spelling → ℕ → List ℕ
spelled Quoted b = byte_text b
spelled Json b = escape_byte b
spelled Digits b = encode_lower (b ∷ [])
spelled Doubled b = doubled b

-- a text between quotes
abbrev pub quoted : List ℕ → List ℕ
quoted bytes = codes "\"" ++ flat_map byte_text bytes ++ codes "\""

-- what each line begins with, where the input has a name: no byte of it breaks a line
abbrev pub label_text : Option (List ℕ) → List ℕ
label_text None = []
label_text (Some name) = flat_map byte_text name ++ codes ": "

-- a value; a float that isn't in the buffer is told as absent, whatever its default
abbrev pub answer_text : Shown → List ℕ
answer_text nothing = codes "absent"
answer_text no_element = codes "no-element"
answer_text other_member = codes "other-member"
answer_text (truth true) = codes "true"
answer_text (truth false) = codes "false"
answer_text (signed number) = signed_decimal number
answer_text (unsigned number) = decimal number
answer_text (float bytes) = codes "float:" ++ encode_lower bytes
answer_text (default_float bits) = codes "absent"
answer_text (default_double bits) = codes "absent"
answer_text (text bytes) = quoted bytes
answer_text (structure bytes) = codes "struct:" ++ encode_lower bytes
answer_text (vector count) = codes "vector:" ++ decimal count
answer_text table = codes "table"
answer_text (union number) = codes "union:" ++ decimal number

-- a value behind a space
abbrev pub spaced : Shown → List ℕ
spaced value = codes " " ++ answer_text value

-- values, one behind another
abbrev pub answers_text : List Shown → List ℕ
answers_text = flat_map spaced

-- an answer in the buffer behind a space
abbrev pub spaced_answer : Answer → List ℕ
spaced_answer answer = spaced (shown answer)
