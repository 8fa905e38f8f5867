-- Rows of CSV (RFC 4180): fields behind one another with a comma between, and the end of a line.
use Rattle.std.specs.Prelude.{◌≡◌, ◌==◌, ◌||◌, ℕ, Bool, true, false, if◌then◌else◌, List, [], ◌∷◌, ◌++◌, Option, Some, None, codes, map}
use Rattle.std.specs.List.{AllZip, flat_map, list_any}
use Rattle.json.specs.Json.{Json, null, boolean, number, string}
use Rattle.fb_access.specs.Denotes.{Shown, text}
use Rattle.fb_run.specs.{AnswerText.answer_text, AnswerText.doubled, Json.IsValue, Json.json_text, Wanted.Wanted, declared.options.Mode.Mode, declared.options.Mode.TheVariants.Csv}
use Rattle.fb_run.specs.declared.values.Notation.{Notation, TheVariants.AsJson, TheVariants.Field, TheVariants.OnlyField}

-- bytes as a string between quotes
abbrev pub enclosed : List ℕ → List ℕ
enclosed bytes = codes "\"" ++ (flat_map doubled bytes ++ codes "\"")

-- the field of a value, where these are its JSON and the field of what is absent: a text between quotes; a number, a
-- word and a truth value as JSON has them, without quotes; and as in plain lines what is an object there
abbrev pub field_of : List ℕ → Shown → Json → List ℕ
field_of absent (text bytes) value = enclosed bytes
field_of absent shown null = absent
field_of absent shown (boolean true) = codes "true"
field_of absent shown (boolean false) = codes "false"
field_of absent shown (number digits) = digits
field_of absent shown (string word) = word
field_of absent shown value = answer_text shown

-- a value as JSON, or as a field; what is absent leaves a field empty, but a row's only field has quotes then, since
-- many readers skip empty lines
abbrev pub written : Notation → Shown → Json → List ℕ
written AsJson shown value = json_text value
written Field shown value = field_of [] shown value
written OnlyField shown value = field_of (codes "\"\"") shown value

abbrev pub IsWritten : Notation → Shown → List ℕ → Type 0
IsWritten notation shown told = (value : Json) × IsValue shown value × (told ≡ written notation shown value)

-- the same of the number, or the word, that stands for a float
abbrev pub bare_text : Json → List ℕ
bare_text (number digits) = digits
bare_text (string word) = word
bare_text _ = []

abbrev pub real_text : Notation → Json → List ℕ
real_text AsJson value = json_text value
real_text Field value = bare_text value
real_text OnlyField value = bare_text value

-- what stands before and behind such a word
abbrev pub edge : Notation → List ℕ
edge AsJson = codes "\""
edge Field = []
edge OnlyField = []

-- fields with a comma between
abbrev pub behind_comma : List ℕ → List ℕ
behind_comma field = codes "," ++ field

abbrev pub joined : List (List ℕ) → List ℕ
joined [] = []
joined (field ∷ fields) = field ++ flat_map behind_comma fields

-- the end of a row
abbrev pub row_end : List ℕ
row_end = codes "\r\n"

-- the field that tells the input, where it has a name, as a string in front of the others
abbrev pub name_field : Option (List ℕ) → List ℕ
name_field None = []
name_field (Some name) = enclosed name ++ codes ","

-- how the fields of a row are written: by whether it has only one
abbrev pub notation_of : Option (List ℕ) → List Shown → Notation
notation_of None (value ∷ []) = OnlyField
notation_of _ _ = Field

-- the fields of some values, with a comma between
abbrev pub AreJoined : Notation → List Shown → List ℕ → Type 0
AreJoined notation shown told = (fields : List (List ℕ)) × AllZip (IsWritten notation) shown fields × (told ≡ joined fields)

-- the row of these values
abbrev pub IsRow : Option (List ℕ) → List Shown → List ℕ → Type 0
IsRow label shown row = (values : List ℕ) × AreJoined (notation_of label shown) shown values × (row ≡ name_field label ++ (values ++ row_end))

-- a byte that stands in a field only between quotes
abbrev pub is_special : ℕ → Bool
is_special b = (b == 44) || ((b == 34) || ((b == 13) || (b == 10)))

-- a text as a field of the head: as it is, or between quotes where it needs them
abbrev pub head_field : List ℕ → List ℕ
head_field path = if list_any is_special path then enclosed path else path

-- the head: the texts of the paths, behind `file` where rows tell the input
abbrev pub head : Bool → List (List ℕ) → List ℕ
head named paths = (if named then codes "file," else []) ++ (joined (map head_field paths) ++ row_end)

-- what is written before any message: the head, where rows are asked for
abbrev pub head_in : Mode → Bool → List Wanted → List ℕ
head_in Csv named paths = head named (map (λ (wanted : Wanted). wanted.text) paths)
head_in _ named paths = []
