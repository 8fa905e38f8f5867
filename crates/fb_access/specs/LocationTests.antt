-- Where faults are, in words, by example.
use Rattle.std.specs.Prelude.{◌≡◌, ℕ, List, [], ◌∷◌, ◌++◌, codes, Option, Some, None, replicate}
use Rattle.fb_schema.specs.Rows.{Rows}
use Rattle.fb_rules.specs.{Samples.short, Samples.text, Samples.object, Samples.vector, Samples.field, Samples.table, declared.fault.Fault.Fault}
use Rattle.fb_rules.specs.declared.{fault.Reason.TheVariants.OutOfBuffer, fault.Reason.TheVariants.ZeroOffset, fault.Reason.TheVariants.TooManyTables, link.Link.Link}
use Rattle.fb_rules.specs.LinkExamples.{herds, link, fault, to_third}
use Rattle.fb_access.specs.{Location.cut_to, Location.name_text, Location.location_text, Samples.rows}

-- a fault in a table of this object, at the field with this number if there is one
abbrev pub fault_in : ℕ → Option ℕ → Fault
fault_in object field = record { at = 0; object = object; field = field; reads = 0; reason = OutOfBuffer }

-- in the sample's rows this is told of this fault
abbrev pub IsIn : Fault → List Link → List ℕ → Type 0
IsIn fault links text = location_text rows fault links ≡ text

-- the root table, a field, an element, a member, and what is behind them
pub record Told : Type 0 where
  pub the_root : IsIn (fault_in 0 None) [] (codes "in . [T]")
  pub a_field : IsIn (fault_in 0 (Some 1)) (link 0 1 None None ∷ []) (codes "in text [T.text]")
  pub behind_a_deprecated_field : IsIn (fault_in 0 (Some 13)) (link 0 13 None None ∷ []) (codes "in longs [T.longs]")
  pub a_table : IsIn (fault_in 2 None) (link 0 3 None None ∷ []) (codes "in table [A]")
  pub of_a_table : IsIn (fault_in 2 (Some 2)) (link 0 3 None None ∷ link 2 2 None None ∷ []) (codes "in table.ubyte [A.ubyte]")
  pub an_element : IsIn (fault_in 0 (Some 8)) (link 0 8 (Some 3) None ∷ []) (codes "in texts[3] [T.texts]")
  pub the_last_element : IsIn (fault_in 0 (Some 8)) (link 0 8 (Some 4294967295) None ∷ []) (codes "in texts[4294967295] [T.texts]")
  pub a_member : IsIn (fault_in 0 (Some 5)) (link 0 5 None (Some 2) ∷ []) (codes "in u@W [T.u]")
  pub of_a_member : IsIn (fault_in 2 (Some 1)) (link 0 11 (Some 10) (Some 1) ∷ link 2 1 None None ∷ []) (codes "in us[10]@A.byte [A.byte]")

-- nothing stands for what has no name
pub record Nameless : Type 0 where
  pub no_type : IsIn (fault_in 0 (Some 5)) (link 0 5 None (Some 0) ∷ []) (codes "in u [T.u]")
  pub unknown_member : IsIn (fault_in 0 (Some 11)) (link 0 11 (Some 1) (Some 9) ∷ []) (codes "in us[1] [T.us]")
  pub no_union : IsIn (fault_in 0 (Some 1)) (link 0 1 None (Some 1) ∷ []) (codes "in text [T.text]")
  pub a_deprecated_field : IsIn (fault_in 0 (Some 12)) (link 0 12 (Some 7) None ∷ []) (codes "in [7] [T]")
  pub a_struct : IsIn (fault_in 1 (Some 0)) (link 1 0 None None ∷ []) (codes "in  [W]")
  pub no_object : IsIn (fault_in 3 (Some 0)) [] (codes "in . []")

-- `table Envelope { payload: [ubyte]; signed: [byte]; } table Inner { to: Person; again: [ubyte]; }`, and
-- `table Person { name: string; }`
abbrev pub envelopes : Rows
envelopes = record {
  objects =
      table (codes "Envelope") (field (codes "payload") 4 (vector 4 0) ∷ field (codes "signed") 6 (vector 3 0) ∷ [])
      ∷ table (codes "Inner") (field (codes "to") 4 (object 2) ∷ field (codes "again") 6 (vector 4 0) ∷ [])
      ∷ table (codes "Person") (field (codes "name") 4 text ∷ [])
      ∷ [];
  enums = [];
}

-- of these rows this is told of this fault
abbrev pub IsEnclosed : Fault → List Link → List ℕ → Type 0
IsEnclosed fault links text = location_text envelopes fault links ≡ text

-- to the bytes of a field, and on inside them; a dot stands behind one of the bytes, and behind a vector of another type
pub record Enclosed : Type 0 where
  pub the_bytes : IsEnclosed (fault_in 0 (Some 0)) (link 0 0 None None ∷ []) (codes "in payload [Envelope.payload]")
  pub the_table_inside : IsEnclosed (fault_in 1 None) (link 0 0 None None ∷ []) (codes "in payload [Inner]")
  pub a_field_inside : IsEnclosed (fault_in 1 (Some 0)) (link 0 0 None None ∷ link 1 0 None None ∷ []) (codes "in payload>to [Inner.to]")
  pub and_on : IsEnclosed (fault_in 2 (Some 0)) (link 0 0 None None ∷ link 1 0 None None ∷ link 2 0 None None ∷ []) (codes "in payload>to.name [Person.name]")
  pub twice : IsEnclosed (fault_in 2 (Some 0)) (link 0 0 None None ∷ link 1 1 None None ∷ link 1 1 None None ∷ link 1 0 None None ∷ link 2 0 None None ∷ [])
      (codes "in payload>again>again>to.name [Person.name]")
  pub a_byte : IsEnclosed (fault_in 0 (Some 0)) (link 0 0 (Some 3) None ∷ []) (codes "in payload[3] [Envelope.payload]")
  pub behind_a_byte : IsEnclosed (fault_in 1 (Some 0)) (link 0 0 (Some 0) None ∷ link 1 0 None None ∷ []) (codes "in payload[0].to [Inner.to]")
  pub behind_signed_bytes : IsEnclosed (fault_in 1 (Some 0)) (link 0 1 None None ∷ link 1 0 None None ∷ []) (codes "in signed.to [Inner.to]")
  pub behind_no_field : IsEnclosed (fault_in 1 (Some 0)) (link 0 2 None None ∷ link 1 0 None None ∷ []) (codes "in .to [Inner.to]")

-- a table and a field whose names would begin a line
abbrev pub rows_with_lines : Rows
rows_with_lines = record { objects = table (codes "a.b\n2 ok") (field (codes "x [y]\n") 4 short ∷ []) ∷ []; enums = [] }

-- a byte that no name has is written as `?`; the bytes beside each range
pub record Masked : Type 0 where
  pub beside : name_text (0 ∷ 10 ∷ 32 ∷ 45 ∷ 46 ∷ 47 ∷ 48 ∷ 57 ∷ 58 ∷ 64 ∷ 65 ∷ 90 ∷ 91 ∷ 94 ∷ 95 ∷ 96 ∷ 97 ∷ 122 ∷ 123 ∷ 127 ∷ 128 ∷ 255 ∷ []) ≡ codes "????.?09??AZ??_?az????"
  pub in_a_line : location_text rows_with_lines (fault_in 0 (Some 0)) (link 0 0 None None ∷ []) ≡ codes "in x??y?? [a.b?2?ok.x??y??]"

-- what is told of the faults whose links are shown for the verifier
pub record Ways : Type 0 where
  pub to_the_root : location_text herds (fault OutOfBuffer 4 0 None 2) [] ≡ codes "in . [M]"
  pub to_a_type : location_text herds (fault OutOfBuffer 212 0 (Some 0) 4) (link 0 0 None None ∷ []) ≡ codes "in t [M.t]"
  pub to_a_vector : location_text herds (fault OutOfBuffer 116 1 (Some 0) 5) (link 1 0 None None ∷ []) ≡ codes "in list [H.list]"
  pub to_a_third_table : location_text herds (fault OutOfBuffer 64 2 None 21) (to_third []) ≡ codes "in u@H.list[2] [C]"
  pub to_its_field : location_text herds (fault ZeroOffset 68 2 (Some 0) 24) (to_third (link 2 0 None None ∷ [])) ≡ codes "in u@H.list[2].name [C.name]"
  pub to_one_too_many : location_text herds (fault TooManyTables 64 1 (Some 0) 20) (to_third []) ≡ codes "in u@H.list[2] [H.list]"

-- a table whose name is so many times an `a`
abbrev pub rows_named : ℕ → Rows
rows_named n = record { objects = table (replicate n 97) [] ∷ []; enums = [] }

-- a text that is as long as may be, and one of a byte more; and so of a place of 4,096 bytes
pub record Long : Type 0 where
  pub whole : cut_to 5 (codes "whole") ≡ codes "whole"
  pub a_byte_more : cut_to 5 (codes "longer") ≡ codes "longe.."
  pub a_whole_place : location_text (rows_named 4089) (fault_in 0 None) [] ≡ codes "in . [" ++ replicate 4089 97 ++ codes "]"
  pub a_place_of_a_byte_more : location_text (rows_named 4090) (fault_in 0 None) [] ≡ codes "in . [" ++ replicate 4090 97 ++ codes ".."
