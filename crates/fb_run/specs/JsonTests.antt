-- Lines of JSON by example.
use Rattle.std.specs.Prelude.{◌≡◌, ℕ, List, [], ◌∷◌, map, pos, codes, Some, None}
use Rattle.std.specs.List.{AllByRecursion}
use Rattle.json.specs.Json.{Json, no_members}
use Rattle.fb_schema.specs.Rows.{Rows}
use Rattle.fb_rules.specs.{Samples.short, Samples.field, Samples.table as table_row, declared.fault.Fault.Fault, declared.fault.Reason.TheVariants.Misaligned}
use Rattle.fb_rules.specs.declared.fault.{Reason.TheVariants.NoTerminator, Report.Report}
use Rattle.fb_access.specs.Denotes.{Shown, float, default_float, default_double, signed, text}
use Rattle.fb_run.specs.{Json.IsValue, Json.IsYes, Json.json_no, Json.json_text, Json.json_yes, Json.text_json, LineTests.of_each_kind, declared.spot.Spot.Spot}

-- one table, eight reads
abbrev pub counts : Report
counts = record { tables = 1; depth = 1; reads = 8 }

-- a table with one field, and a string in it without its last byte
abbrev pub deliveries : Rows
deliveries = record { objects = table_row (codes "post.Delivery") (field (codes "items") 4 short ∷ []) ∷ []; enums = [] }

abbrev pub unended : Fault
unended = record { at = 314; object = 0; field = Some 0; reads = 63; reason = NoTerminator }

-- the first message, of 28 bytes, and the seventh, with 308 bytes before it
abbrev pub first : Spot
first = record { number = 1; begin = 0; bytes = 28 }

abbrev pub seventh : Spot
seventh = record { number = 7; begin = 308; bytes = 64 }

pub record JsonLines : Type 0 where
  pub yes : json_yes None seventh counts no_members ≡ codes "{\"message\":7,\"begin\":308,\"bytes\":64,\"ok\":true,\"tables\":1,\"depth\":1,\"reads\":8}\n"
  pub values : IsYes None first counts (codes "hp" ∷ codes "name" ∷ []) (signed (pos 300) ∷ text (codes "Orc") ∷ [])
      (codes "{\"message\":1,\"begin\":0,\"bytes\":28,\"ok\":true,\"tables\":1,\"depth\":1,\"reads\":8,\"values\":{\"hp\":300,\"name\":\"Orc\"}}\n")
  pub of_a_file : json_yes (Some (codes "a b.bin")) seventh counts no_members
      ≡ codes "{\"file\":\"a b.bin\",\"message\":7,\"begin\":308,\"bytes\":64,\"ok\":true,\"tables\":1,\"depth\":1,\"reads\":8}\n"
  pub no : json_no None seventh deliveries unended (Some (codes "items[1]@Note"))
      ≡ codes "{\"message\":7,\"begin\":308,\"bytes\":64,\"ok\":false,\"code\":\"V10\",\"reason\":\"NoTerminator\",\"at\":314,\"object\":\"post.Delivery\",\"field\":\"items\",\"reads\":63,\"place\":\"items[1]@Note\"}\n"
  pub no_field : json_no None first deliveries (record unended { field = None; reason = Misaligned }) None
      ≡ codes "{\"message\":1,\"begin\":0,\"bytes\":28,\"ok\":false,\"code\":\"V3\",\"reason\":\"Misaligned\",\"at\":314,\"object\":\"post.Delivery\",\"field\":null,\"reads\":63}\n"

-- a value may be told so
abbrev pub IsText : Shown → List ℕ → Type 0
IsText shown told = (value : Json) × IsValue shown value × (json_text value ≡ told)

-- values of each kind; a zero with its sign, and what is no number
pub record JsonValues : Type 0 where
  pub kinds : AllByRecursion (λ row. IsText row.0 row.2) of_each_kind
  pub negative_zero : IsText (float (0 ∷ 0 ∷ 0 ∷ 128 ∷ [])) (codes "-0.0")
  pub none : IsText (float (0 ∷ 0 ∷ 192 ∷ 127 ∷ [])) (codes "\"NaN\"")
  pub infinite : IsText (float (0 ∷ 0 ∷ 128 ∷ 127 ∷ [])) (codes "\"Infinity\"")
  pub negative : IsText (float (0 ∷ 0 ∷ 0 ∷ 0 ∷ 0 ∷ 0 ∷ 240 ∷ 255 ∷ [])) (codes "\"-Infinity\"")
  pub default_zero : IsText (default_float 0) (codes "0.0")
  pub default_none : IsText (default_double 0x7ff8000000000000) (codes "\"NaN\"")
  pub default_infinite : IsText (default_float 0xff800000) (codes "\"-Infinity\"")

-- what is escaped, and what beside it isn't; a letter of two bytes; a byte that no text has, one that lacks the next, a
-- letter that is longer than it need be, and half of a pair
abbrev pub texts : List (List ℕ × List ℕ)
texts =
    ([], codes "\"\"") ∷ (33 ∷ 34 ∷ 35 ∷ [], codes "\"!\\\"#\"") ∷ (91 ∷ 92 ∷ 93 ∷ [], codes "\"[\\\\]\"") ∷ (0 ∷ 31 ∷ 32 ∷ [], codes "\"\\u0000\\u001f \"")
    ∷ (8 ∷ 9 ∷ 10 ∷ 11 ∷ 12 ∷ 13 ∷ [], codes "\"\\b\\t\\n\\u000b\\f\\r\"") ∷ (126 ∷ 127 ∷ [], 34 ∷ 126 ∷ 127 ∷ 34 ∷ [])
    ∷ (195 ∷ 188 ∷ [], 34 ∷ 195 ∷ 188 ∷ 34 ∷ []) ∷ (74 ∷ 255 ∷ [], codes "{\"bytes\":\"4aff\"}") ∷ (195 ∷ [], codes "{\"bytes\":\"c3\"}")
    ∷ (192 ∷ 128 ∷ [], codes "{\"bytes\":\"c080\"}") ∷ (237 ∷ 160 ∷ 128 ∷ [], codes "{\"bytes\":\"eda080\"}") ∷ []

-- texts of these bytes are told so
abbrev pub JsonTexts : Type 0
JsonTexts = map (λ row. json_text (text_json row.0)) texts ≡ map (λ row. row.1) texts
