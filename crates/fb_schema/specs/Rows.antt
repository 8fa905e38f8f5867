-- The rows of a schema, as contracts see them: plain records without references.
use Rattle.std.specs.Prelude.{ℕ, ◌<◌, ◌^◌, All, length, vec_len, ℤ, pos, negsuc, Bool, false, not, List, map, slice_get, Option, Some, None, position, if◌then◌else◌, option_and_then, bytes_eq}
use Rattle.fb_schema.specs.declared.rows.{TypeRow.TypeRow, FieldRow.FieldRow, ObjectRow.ObjectRow, MemberRow.MemberRow, EnumRow.EnumRow}

-- a field of a table or struct
pub record Field : Type 0 where
  pub name : List ℕ
  pub ty : TypeRow
  pub slot : ℕ
  pub default : ℤ
  pub deprecated : Bool
  pub required : Bool
  pub optional : Bool
  pub offset64 : Bool

-- a table or struct
pub record Object : Type 0 where
  pub name : List ℕ
  pub fields : List Field
  pub is_struct : Bool
  pub minalign : ℤ
  pub bytesize : ℤ

-- a value of an enum or a member of a union
pub record Member : Type 0 where
  pub name : List ℕ
  pub value : ℤ
  pub ty : TypeRow

-- an enum or union
pub record Enum : Type 0 where
  pub name : List ℕ
  pub members : List Member
  pub is_union : Bool

-- the two lists of rows of a schema
pub record Rows : Type 0 where
  pub objects : List Object
  pub enums : List Enum

-- a field's row without where its name lies in memory
abbrev pub field_of : FieldRow → Field
field_of f = record { name = f.name.now; ty = f.ty; slot = f.slot; default = f.default; deprecated = f.deprecated; required = f.required; optional = f.optional; offset64 = f.offset64 }

-- an object's row, likewise
abbrev pub object_of : ObjectRow → Object
object_of o = record { name = o.name.now; fields = map field_of o.fields.items; is_struct = o.is_struct; minalign = o.minalign; bytesize = o.bytesize }

-- a member's row, likewise
abbrev pub member_of_row : MemberRow → Member
member_of_row m = record { name = m.name.now; value = m.value; ty = m.ty }

-- an enum's row, likewise
abbrev pub enum_of : EnumRow → Enum
enum_of e = record { name = e.name.now; members = map member_of_row e.members.items; is_union = e.is_union }

-- the rows of two lists in memory
abbrev pub rows_of : List ObjectRow → List EnumRow → Rows
rows_of objects enums = record { objects = map object_of objects; enums = map enum_of enums }

-- the item at a signed place, if there is one
abbrev pub entry_at : {X : Type 0} → List X → ℤ → Option X
entry_at xs (pos k) = slice_get xs k
entry_at xs (negsuc k) = None

-- there is an object, and it is a table
abbrev pub is_some_table : Option Object → Bool
is_some_table None = false
is_some_table (Some o) = not o.is_struct

-- the object of this number is a table
abbrev pub is_table : Rows → ℕ → Bool
is_table rows n = is_some_table (slice_get rows.objects n)

-- the table of this name; none where the object of this name is a struct
unfoldable pub table_named : Rows → List ℕ → Option ℕ
table_named rows name = option_and_then (λ n. if is_table rows n then Some n else None) (position (λ o. bytes_eq o.name name) rows.objects)

-- there is an enum, and it is a union
abbrev pub is_some_union : Option Enum → Bool
is_some_union None = false
is_some_union (Some e) = e.is_union

-- the enum of this number is a union
abbrev pub is_union : Rows → ℕ → Bool
is_union rows n = is_some_union (slice_get rows.enums n)

-- every list has fewer than 2 ^ 31 items
pub record AreFew (os : List ObjectRow) (es : List EnumRow) : Type 0 where
  pub objects : length os < 2 ^ 31
  pub enums : length es < 2 ^ 31
  pub fields : All (λ o. vec_len o.fields < 2 ^ 31) os
  pub members : All (λ e. vec_len e.members < 2 ^ 31) es
