-- Examples of rows: legal ones, others with the first demand that they break, and what look-ups answer.
use Rattle.std.specs.Prelude.{ℕ, ℤ, pos, true, List, [], ◌∷◌, codes, Option, Some, None}
use Rattle.fb_schema.specs.declared.{rows.TypeRow.TypeRow, fault.Code.Code, fault.Code.TheVariants.NoSuchObject, fault.Code.TheVariants.NoSuchEnum}
use Rattle.fb_schema.specs.declared.fault.Code.TheVariants.{Unsupported, BadSlot, NoTypeField, BadStruct, BadMember, NameTwice}
use Rattle.fb_schema.specs.{Rows.Field, Rows.Object, Rows.Member, Rows.Rows, Demands.IsLegal, Demands.IsFirstIllegal, Builders.type_of_one, Builders.type_of_vector}
use Rattle.fb_schema.specs.Builders.{type_of_array, plain_field, plain_table, struct_of, plain_member, union_of, enum_of_values}

-- the first demand that the rows break has this code, and is one of this object or enum, or of this part of it
abbrev pub IsRefused : Rows → Code → ℕ → Option ℕ → Type 0
IsRefused rows code owner part = IsFirstIllegal rows (record { code = code; owner = owner; part = part })

-- Types.

abbrev pub type_byte : TypeRow
type_byte = type_of_one (pos 1)

abbrev pub type_bytes : TypeRow
type_bytes = type_of_vector (pos 1)

abbrev pub int : TypeRow
int = type_of_one (pos 7)

abbrev pub text : TypeRow
text = type_of_one (pos 13)

-- an object with this number, and a vector of such
abbrev pub object : ℤ → TypeRow
object k = record (type_of_one (pos 15)) { index = k }

abbrev pub objects : ℤ → TypeRow
objects k = record (type_of_vector (pos 15)) { index = k }

-- a union with this number, and a vector of such
abbrev pub union : ℤ → TypeRow
union e = record (type_of_one (pos 16)) { index = e }

abbrev pub unions : ℤ → TypeRow
unions e = record (type_of_vector (pos 16)) { index = e }

-- Rows.

-- objects alone
abbrev pub with_objects : List Object → Rows
with_objects os = record { objects = os; enums = [] }

-- a table A, and a struct W of eight bytes
abbrev pub a_table : Object
a_table = plain_table (codes "A") []

abbrev pub a_struct : Object
a_struct = struct_of (codes "W") (pos 8) (pos 4) []

-- a struct S of 16 bytes with these fields, beside the table A, which is 1, and the struct W, which is 2
abbrev pub struct_with : List Field → Rows
struct_with fields = with_objects (struct_of (codes "S") (pos 16) (pos 8) fields ∷ a_table ∷ a_struct ∷ [])

-- a table T with these fields, beside the same objects, a union U, which is 0, and an enum E, which is 1
abbrev pub table_with : List Field → Rows
table_with fields = record {
  objects = plain_table (codes "T") fields ∷ a_table ∷ a_struct ∷ [];
  enums = union_of (codes "U") (plain_member (codes "A") (pos 1) (object (pos 1)) ∷ []) ∷ enum_of_values (codes "E") [] ∷ [];
}

-- a union U with these members, beside the table A, which is 0, and the struct W, which is 1
abbrev pub union_with : List Member → Rows
union_with members = record { objects = a_table ∷ a_struct ∷ []; enums = union_of (codes "U") members ∷ [] }

-- one field x of a struct at this place, or of a table in this slot
abbrev pub in_struct : ℕ → TypeRow → Rows
in_struct slot ty = struct_with (plain_field (codes "x") slot ty ∷ [])

abbrev pub in_table : ℕ → TypeRow → Rows
in_table slot ty = table_with (plain_field (codes "x") slot ty ∷ [])

-- a deprecated field
abbrev pub unused : List ℕ → ℕ → TypeRow → Field
unused name slot ty = record (plain_field name slot ty) { deprecated = true }

-- a type field t in slot 4, and a field x behind it
abbrev pub typed : TypeRow → TypeRow → Rows
typed types ty = table_with (plain_field (codes "t") 4 types ∷ plain_field (codes "x") 6 ty ∷ [])

-- one member x
abbrev pub in_union : ℤ → TypeRow → Rows
in_union value ty = union_with (plain_member (codes "x") value ty ∷ [])

-- Each demand.

-- rows that break one, beside others that meet it
pub record Demanded : Type 0 where
  pub structs : IsLegal (in_table 4 (objects (pos 2)))
  pub no_object : IsRefused (in_table 4 (objects (pos 3))) NoSuchObject 0 (Some 0)
  pub no_union : IsRefused (typed type_byte (union (pos 1))) NoSuchEnum 0 (Some 1)
  pub an_array : IsRefused (in_table 4 (type_of_array (pos 7) 1)) Unsupported 0 (Some 0)
  pub deprecated : IsLegal (table_with (unused (codes "x") 4 (type_of_array (pos 7) 1) ∷ []))
  pub odd_slot : IsRefused (in_table 5 int) BadSlot 0 (Some 0)
  pub a_union : IsLegal (typed type_byte (union (pos 0)))
  pub vector_of_types : IsRefused (typed type_bytes (union (pos 0))) NoTypeField 0 (Some 1)
  pub at_the_end : IsLegal (in_struct 12 int)
  pub past_the_end : IsRefused (in_struct 13 int) BadStruct 0 (Some 0)
  pub no_bytes : IsRefused (with_objects (struct_of (codes "S") (pos 0) (pos 1) [] ∷ [])) BadStruct 0 None
  pub no_bytes_of_a_table : IsLegal (with_objects (record a_table { minalign = pos 3; bytesize = pos 0 } ∷ []))
  pub a_text : IsLegal (in_union (pos 255) text)
  pub too_high : IsRefused (in_union (pos 256) text) BadMember 0 (Some 0)
  pub name_twice : IsRefused (with_objects (a_table ∷ a_struct ∷ a_table ∷ [])) NameTwice 2 None

-- Which of two is the first.

-- objects before enums, a lower number before a higher, an object before its fields, and these in their order
pub record Firsts : Type 0 where
  pub nothing_at_all : IsLegal (with_objects [])
  pub object_before_enum : IsRefused (record { objects = a_table ∷ a_table ∷ []; enums = union_of (codes "U") (plain_member (codes "x") (pos 256) text ∷ []) ∷ [] }) NameTwice 1 None
  pub lower_object : IsRefused (with_objects (plain_table (codes "A") (plain_field (codes "x") 5 int ∷ []) ∷ a_table ∷ [])) BadSlot 0 (Some 0)
  pub lower_enum : IsRefused (record {
    objects = [];
    enums = union_of (codes "U") (plain_member (codes "x") (pos 1) text ∷ []) ∷ union_of (codes "V")
        (plain_member (codes "x") (pos 1) int ∷ []) ∷ union_of (codes "W") (plain_member (codes "x") (pos 256) text ∷ []) ∷ [];
  }) BadMember 1 (Some 0)
  pub object_before_field : IsRefused (with_objects (struct_of (codes "S") (pos 0) (pos 1) (plain_field (codes "x") 0 text ∷ []) ∷ [])) BadStruct 0 None
  pub lower_field : IsRefused (table_with (plain_field (codes "x") 4 int ∷ plain_field (codes "y") 6 (object (pos 3)) ∷ plain_field (codes "x") 8 int ∷ [])) NoSuchObject 0 (Some 1)
  pub lower_field_of_a_struct : IsRefused (struct_with (plain_field (codes "x") 0 int ∷ plain_field (codes "y") 14 int ∷ plain_field (codes "x") 4 int ∷ [])) BadStruct 0 (Some 1)
  pub lower_member : IsRefused (union_with
      (plain_member (codes "x") (pos 1) text ∷ plain_member (codes "y") (pos 2) (object (pos 2)) ∷ plain_member (codes "z") (pos 1) text ∷ [])) NoSuchObject 0 (Some 1)
