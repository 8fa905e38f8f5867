-- What rows that stand flat are.
use Rattle.std.specs.Prelude.{List, All, map, length, ◌<◌, ◌^◌, Option, option_map}
use Rattle.std.specs.Borrow.{Bor}
use Rattle.fb_schema.specs.declared.{rows.FieldRow.FieldRow, rows.MemberRow.MemberRow, flat.ObjectPart.ObjectPart, flat.EnumPart.EnumPart, flat.FlatRows.FlatRows}
use Rattle.fb_schema.specs.{declared.flat.RowLists.RowLists, Flat.part, Flat.IsPart, Rows.Rows, Rows.Object, Rows.Enum, Rows.field_of, Rows.member_of_row}

-- an object with these fields
abbrev pub object_with : ObjectPart → List FieldRow → Object
object_with o fields = record { name = o.name.now; fields = map field_of fields; is_struct = o.is_struct; minalign = o.minalign; bytesize = o.bytesize }

-- an object, whose fields are a part of these
abbrev pub object_in : List FieldRow → ObjectPart → Object
object_in fields o = object_with o (part fields o.fields)

-- an enum with these members
abbrev pub enum_with : EnumPart → List MemberRow → Enum
enum_with e members = record { name = e.name.now; members = map member_of_row members; is_union = e.is_union }

-- an enum, whose members are a part of these
abbrev pub enum_in : List MemberRow → EnumPart → Enum
enum_in members e = enum_with e (part members e.members)

-- the two lists of rows
abbrev pub flat_rows : {A : Type 0} → FlatRows A → Rows
flat_rows r = record { objects = map (object_in r.fields.items) r.objects.items; enums = map (enum_in r.members.items) r.enums.items }

-- the same of rows that are lent
abbrev pub borrowed_rows : RowLists → Rows
borrowed_rows r = record { objects = map (object_in r.fields.now) r.objects.now; enums = map (enum_in r.members.now) r.enums.now }

-- an object that was found
abbrev pub found_object : List FieldRow → Option (Bor ObjectPart) → Option Object
found_object fields found = option_map (λ o. object_in fields o.now) found

abbrev pub found_enum : List MemberRow → Option (Bor EnumPart) → Option Enum
found_enum members found = option_map (λ e. enum_in members e.now) found

-- every range is within its rows, and every list has fewer than 2 ^ 31 items
pub record AreParts (os : List ObjectPart) (fs : List FieldRow) (es : List EnumPart) (ms : List MemberRow) : Type 0 where
  pub objects : length os < 2 ^ 31
  pub enums : length es < 2 ^ 31
  pub fields : All (λ o. IsPart (length fs) o.fields) os
  pub members : All (λ e. IsPart (length ms) e.members) es
