-- A fault, or a hint, as a line of JSON (RFC 8259).
use Rattle.std.specs.Prelude.{◌≡◌, ◌⊎◌, ℕ, ◌-◌, ◌==◌, ◌||◌, Bool, if◌then◌else◌, List, [], ◌∷◌, ◌++◌, Option, Some, None, codes, length, take}
use Rattle.json.specs.Json.{Json, object, Members, no_members, member}
use Rattle.fb_run.specs.{Json.count_json, Json.json_text, Json.text_json, declared.options.LineForm.LineForm, declared.options.LineForm.TheVariants.Json as in_json}

-- what joins a hint to the text before it: one of , : ; and then a space
abbrev pub is_join : ℕ → Bool
is_join b = (b == 44) || (b == 58) || (b == 59)

abbrev pub past_join : List ℕ → List ℕ
past_join [] = []
past_join (b ∷ text) = if is_join b then text else b ∷ text

abbrev pub past_space : List ℕ → List ℕ
past_space [] = []
past_space (b ∷ text) = if b == 32 then text else b ∷ text

-- what a hint says, without that and without its newline
abbrev pub hint_text : List ℕ → List ℕ
hint_text behind = past_space (past_join (take (length behind - 1) behind))

-- the name of the file that it is of, where it is of one, before other members
abbrev pub file_member : Option (List ℕ) → Members → Members
file_member None rest = rest
file_member (Some name) rest = member (codes "file") (text_json name) rest

-- what a hint says, where there is one, before other members
abbrev pub hint_member : List ℕ → Members → Members
hint_member [] rest = rest
hint_member (b ∷ text) rest = member (codes "hint") (text_json (b ∷ text)) rest

-- a fault with the exit status that it leads to, and a hint alone
abbrev pub fault_json : Option (List ℕ) → List ℕ → List ℕ → ℕ → Json
fault_json file fault hint status =
    object (file_member file (member (codes "fault") (text_json fault) (hint_member hint (member (codes "status") (count_json status) no_members))))

abbrev pub hint_json : Option (List ℕ) → List ℕ → Json
hint_json file hint = object (file_member file (member (codes "hint") (text_json hint) no_members))

-- their lines, by what stands behind the plain text of the fault, and by the plain hint
abbrev pub fault_object : Option (List ℕ) → List ℕ → List ℕ → ℕ → List ℕ
fault_object file fault behind status = json_text (fault_json file fault (hint_text behind) status) ++ codes "\n"

abbrev pub hint_object : Option (List ℕ) → List ℕ → List ℕ
hint_object file hint = json_text (hint_json file (hint_text hint)) ++ codes "\n"

-- which of both a line is: the object where faults are told in JSON, the plain line else, and there for want of memory
abbrev pub IsLineIn : LineForm → List ℕ → List ℕ → List ℕ → Type 0
IsLineIn in_json told plain line = (line ≡ told) ⊎ (line ≡ plain)
IsLineIn _ told plain line = line ≡ plain

-- ---- by the parts that are written

abbrev pub head_part : Option (List ℕ) → List ℕ
head_part None = codes "{"
head_part (Some name) = codes "{\"file\":" ++ (json_text (text_json name) ++ codes ",")

abbrev pub hint_part : List ℕ → List ℕ
hint_part [] = []
hint_part (b ∷ text) = codes ",\"hint\":" ++ json_text (text_json (b ∷ text))
