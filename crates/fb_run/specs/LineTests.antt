-- Lines of verdicts by example.
use Rattle.std.specs.Prelude.{◌≡◌, ℕ, pos, negsuc, true, false, List, [], ◌∷◌, map, codes, Some, None, Ok, Err}
use Rattle.fb_access.specs.Denotes.{Shown, nothing, no_element, other_member, truth, signed, unsigned, float, default_float, default_double, text, structure, vector, table, union}
use Rattle.fb_rules.specs.declared.fault.{Fault.Fault, Reason.TheVariants.Misaligned, Reason.TheVariants.NoTerminator, Report.Report}
use Rattle.fb_run.specs.{AnswerText.answer_text, AnswerText.label_text, Line.verdict_line}

-- three tables, two open at once, ten reads
abbrev pub counts : Report
counts = record { tables = 3; depth = 2; reads = 10 }

-- a string without its last byte, in field 6 of a table of object 1
abbrev pub unended : Fault
unended = record { at = 314; object = 1; field = Some 6; reads = 63; reason = NoTerminator }

pub record Lines : Type 0 where
  pub yes : verdict_line 7 (Ok (record { report = counts; answers = [] })) ≡ codes "7 ok tables=3 depth=2 reads=10\n"
  pub value : verdict_line 12 (Ok (record { report = counts; answers = text (codes "Ada") ∷ [] })) ≡ codes "12 ok tables=3 depth=2 reads=10 \"Ada\"\n"
  pub values : verdict_line 12 (Ok (record { report = counts; answers = signed (negsuc 6) ∷ text [] ∷ nothing ∷ [] })) ≡ codes "12 ok tables=3 depth=2 reads=10 -7 \"\" absent\n"
  pub no : verdict_line 5 (Err (record { fault = unended; place = None })) ≡ codes "5 bad V10 NoTerminator at=314 object=1 field=6 reads=63\n"
  pub no_field : verdict_line 100 (Err (record { fault = record unended { field = None; reason = Misaligned }; place = None })) ≡ codes "100 bad V3 Misaligned at=314 object=1 field=- reads=63\n"
  pub place : verdict_line 5 (Err (record { fault = unended; place = Some (codes "in tags[0] [Parcel.tags]") }))
      ≡ codes "5 bad V10 NoTerminator at=314 object=1 field=6 reads=63 in tags[0] [Parcel.tags]\n"

-- a value of each kind, with its text and its JSON
abbrev pub of_each_kind : List (Shown × List ℕ × List ℕ)
of_each_kind =
    (nothing, codes "absent", codes "null") ∷ (no_element, codes "no-element", codes "{\"absent\":\"no-element\"}")
    ∷ (other_member, codes "other-member", codes "{\"absent\":\"other-member\"}")
    ∷ (truth true, codes "true", codes "true") ∷ (truth false, codes "false", codes "false") ∷ (unsigned 65535, codes "65535", codes "65535")
    ∷ (signed (negsuc 299), codes "-300", codes "-300") ∷ (signed (pos 40), codes "40", codes "40")
    ∷ (float (0 ∷ 0 ∷ 128 ∷ 63 ∷ []), codes "float:0000803f", codes "1.0")
    ∷ (float (0 ∷ 0 ∷ 192 ∷ 63 ∷ []), codes "float:0000c03f", codes "1.5")
    ∷ (default_float 0x3fc00000, codes "absent", codes "1.5") ∷ (default_double 0x3ff8000000000000, codes "absent", codes "1.5")
    ∷ (structure (1 ∷ 171 ∷ []), codes "struct:01ab", codes "{\"struct\":\"01ab\"}")
    ∷ (vector 3, codes "vector:3", codes "{\"vector\":3}") ∷ (table, codes "table", codes "{\"table\":true}") ∷ (union 2, codes "union:2", codes "{\"union\":2}") ∷ []

-- these are their texts
abbrev pub Values : Type 0
Values = map (λ row. answer_text row.0) of_each_kind ≡ map (λ row. row.1) of_each_kind

-- the name of an input, with a byte that would break the line
pub record Names : Type 0 where
  pub none : label_text None ≡ []
  pub plain : label_text (Some (codes "a.bin")) ≡ codes "a.bin: "
  pub broken : label_text (Some (97 ∷ 10 ∷ 98 ∷ [])) ≡ codes "a\\x0ab: "

-- at both ends of printable ASCII, and where a backslash stands before
pub record Texts : Type 0 where
  pub empty : answer_text (text []) ≡ codes "\"\""
  pub below_a_space : answer_text (text (31 ∷ 32 ∷ [])) ≡ codes "\"\\x1f \""
  pub above_a_tilde : answer_text (text (126 ∷ 127 ∷ [])) ≡ codes "\"~\\x7f\""
  pub quote : answer_text (text (33 ∷ 34 ∷ 35 ∷ [])) ≡ codes "\"!\\\"#\""
  pub backslash : answer_text (text (91 ∷ 92 ∷ 93 ∷ [])) ≡ codes "\"[\\\\]\""
  pub not_ascii : answer_text (text (195 ∷ 169 ∷ 0 ∷ 255 ∷ [])) ≡ codes "\"\\xc3\\xa9\\x00\\xff\""
