-- Examples of what look-ups answer of rows.
use Rattle.std.specs.Prelude.{◌≡◌, ℕ, pos, negsuc, true, false, List, [], ◌∷◌, codes, Option, Some, None}
use Rattle.fb_schema.specs.declared.kinds.{Scalar.TheVariants.UType, Scalar.TheVariants.Short, Scalar.TheVariants.Long, Kind.Kind, Kind.TheVariants.Scalar, Kind.TheVariants.Text}
use Rattle.fb_schema.specs.declared.kinds.Kind.TheVariants.{Struct, Table, Union, Scalars, Texts, Structs, Tables, Unions}
use Rattle.fb_schema.specs.{Rows.Rows, Members.member_of, Members.member_named, Members.member_name, Live.Live, Live.live_fields, Live.next_required, Live.widest, Live.field_named}
use Rattle.fb_schema.specs.Builders.{type_of_one, type_of_vector, plain_field, plain_table, struct_of, plain_member, union_of, enum_of_values}
use Rattle.fb_schema.specs.Examples.{type_byte, type_bytes, text, object, objects, union, unions, unused}

-- a field that is told by its number, slot, name, kind, the size and alignment of that, and the place of its type
-- field
abbrev pub live : ℕ → ℕ → List ℕ → Kind → ℕ → ℕ → Option ℕ → Live
live number slot name kind size align companion = record {
  number = number;
  slot = slot;
  name = name;
  kind = kind;
  default = pos 0;
  required = false;
  optional = false;
  size = size;
  align = align;
  companion = companion;
}

-- a table T, a struct W of 12 bytes that is aligned to 2, a table A, and a union U; the fields of T stand in the list
-- in falling slot, and one in the midst is deprecated
abbrev pub of_kinds : Rows
of_kinds = record {
  objects =
      plain_table (codes "T") (
      plain_field (codes "k") 28 (unions (pos 1))
      ∷ plain_field (codes "j") 26 type_bytes
      ∷ plain_field (codes "i") 24 (objects (pos 2))
      ∷ plain_field (codes "h") 22 (objects (pos 1))
      ∷ plain_field (codes "g") 20 (type_of_vector (pos 13))
      ∷ plain_field (codes "f") 18 (type_of_vector (pos 9))
      ∷ unused (codes "z") 16 text
      ∷ plain_field (codes "e") 14 (union (pos 1))
      ∷ plain_field (codes "d") 12 type_byte
      ∷ plain_field (codes "c") 10 (object (pos 2))
      ∷ plain_field (codes "b") 8 (object (pos 1))
      ∷ record (plain_field (codes "a") 6 text) { required = true }
      ∷ record (plain_field (codes "n") 4 (type_of_one (pos 5))) { default = negsuc 6; optional = true }
      ∷ [])
      ∷ struct_of (codes "W") (pos 12) (pos 2) (plain_field (codes "x") 0 (type_of_one (pos 7)) ∷ [])
      ∷ plain_table (codes "A") (plain_field (codes "x") 6 text ∷ [])
      ∷ [];
  enums =
      enum_of_values (codes "E") (plain_member (codes "A") (pos 1) (object (pos 2)) ∷ [])
      ∷ union_of (codes "U") (
      plain_member (codes "A") (pos 255) (object (pos 2))
      ∷ plain_member (codes "N") (pos 0) (type_of_one (pos 0))
      ∷ plain_member (codes "W") (pos 3) (object (pos 1))
      ∷ plain_member (codes "T") (pos 1) text
      ∷ [])
      ∷ [];
}

-- each kind has its size and alignment, and a union the place of its type field; fields stand in rising slot
pub record KindFields : Type 0 where
  pub of_a_table : live_fields of_kinds 0
      ≡ (record (live 0 4 (codes "n") (Scalar Short) 2 2 None) { default = negsuc 6; optional = true }
      ∷ record (live 1 6 (codes "a") Text 4 4 None) { required = true }
      ∷ live 2 8 (codes "b") (Struct 1) 12 2 None
      ∷ live 3 10 (codes "c") (Table 2) 4 4 None
      ∷ live 4 12 (codes "d") (Scalar UType) 1 1 None
      ∷ live 5 14 (codes "e") (Union 1) 4 4 (Some 4)
      ∷ live 7 18 (codes "f") (Scalars Long) 8 8 None
      ∷ live 8 20 (codes "g") Texts 4 4 None
      ∷ live 9 22 (codes "h") (Structs 1) 12 2 None
      ∷ live 10 24 (codes "i") (Tables 2) 4 4 None
      ∷ live 11 26 (codes "j") (Scalars UType) 1 1 None
      ∷ live 12 28 (codes "k") (Unions 1) 4 4 (Some 10)
      ∷ [])
  pub of_a_struct : live_fields of_kinds 1 ≡ []
  pub of_no_object : live_fields of_kinds 3 ≡ []
  pub required_before : next_required of_kinds 0 0 ≡ Some 1
  pub required_here : next_required of_kinds 0 1 ≡ Some 1
  pub required_no_more : next_required of_kinds 0 2 ≡ None
  pub required_past_the_last : next_required of_kinds 0 13 ≡ None
  pub widest_table : widest of_kinds ≡ 12
  pub by_name : field_named of_kinds 0 (codes "e") ≡ Some 5
  pub by_a_deprecated_name : field_named of_kinds 0 (codes "z") ≡ None
  pub by_another_name : field_named of_kinds 2 (codes "a") ≡ None

-- a member is found by its value from 1 to 255, and by its name
pub record UnionMembers : Type 0 where
  pub a_table : member_of of_kinds 1 255 ≡ Some (Table 2)
  pub a_struct : member_of of_kinds 1 3 ≡ Some (Struct 1)
  pub a_text : member_of of_kinds 1 1 ≡ Some Text
  pub no_value : member_of of_kinds 1 0 ≡ None
  pub unknown : member_of of_kinds 1 2 ≡ None
  pub too_high : member_of of_kinds 1 256 ≡ None
  pub of_an_enum : member_of of_kinds 0 1 ≡ None
  pub of_no_enum : member_of of_kinds 2 1 ≡ None
  pub by_name : member_named of_kinds 1 (codes "A") ≡ Some 255
  pub named_but_without_value : member_named of_kinds 1 (codes "N") ≡ None
  pub by_another_name : member_named of_kinds 1 (codes "X") ≡ None
  pub name : member_name of_kinds 1 255 ≡ Some (codes "A")
  pub no_name_without_value : member_name of_kinds 1 0 ≡ None
  pub unknown_name : member_name of_kinds 1 2 ≡ None
  pub no_name_of_an_enum : member_name of_kinds 0 1 ≡ None
