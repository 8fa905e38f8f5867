-- The fixed table: the rows of reflection.fbs, by which schema files are verified and read.
use Rattle.std.specs.Prelude.{ℕ, ◌+◌, ◌*◌, ℤ, pos, negsuc, true, false, List, [], ◌∷◌, codes}
use Rattle.fb_schema.specs.{Rows.Field, Rows.Object, Rows.Rows, Builders.type_of_one, Builders.plain_table, declared.rows.TypeRow.TypeRow}

-- Types.

-- the object with this number
abbrev pub object_type : ℤ → TypeRow
object_type n = record { base = pos 15; element = pos 0; index = n; fixed_length = 0 }

-- a vector of a base type; n is the number of the object, where it is one
abbrev pub vector_type : ℤ → ℤ → TypeRow
vector_type element n = record { base = pos 14; element = element; index = n; fixed_length = 0 }

abbrev pub bool_type : TypeRow
bool_type = type_of_one (pos 2)

abbrev pub byte_type : TypeRow
byte_type = type_of_one (pos 3)

abbrev pub ushort_type : TypeRow
ushort_type = type_of_one (pos 6)

abbrev pub int_type : TypeRow
int_type = type_of_one (pos 7)

abbrev pub long_type : TypeRow
long_type = type_of_one (pos 9)

abbrev pub ulong_type : TypeRow
ulong_type = type_of_one (pos 10)

abbrev pub double_type : TypeRow
double_type = type_of_one (pos 12)

abbrev pub text_type : TypeRow
text_type = type_of_one (pos 13)

abbrev pub texts_type : TypeRow
texts_type = vector_type (pos 13) (negsuc 0)

abbrev pub objects_type : ℤ → TypeRow
objects_type n = vector_type (pos 15) n

-- The numbers of the objects that types name.

abbrev pub type_number : ℤ
type_number = pos 0

abbrev pub key_value_number : ℤ
key_value_number = pos 1

abbrev pub enum_val_number : ℤ
enum_val_number = pos 2

abbrev pub enum_number : ℤ
enum_number = pos 3

abbrev pub field_number : ℤ
field_number = pos 4

abbrev pub object_number : ℤ
object_number = pos 5

abbrev pub call_number : ℤ
call_number = pos 6

abbrev pub service_number : ℤ
service_number = pos 7

abbrev pub file_number : ℤ
file_number = pos 8

-- Fields.

-- the field with this number
abbrev pub plain_field : ℕ → List ℕ → TypeRow → Field
plain_field n name ty = record { name = name; ty = ty; slot = 4 + 2 * n; default = pos 0; deprecated = false; required = false; optional = false; offset64 = false }

abbrev pub required_field : ℕ → List ℕ → TypeRow → Field
required_field n name ty = record (plain_field n name ty) { required = true }

abbrev pub deprecated_field : ℕ → List ℕ → TypeRow → Field
deprecated_field n name ty = record (plain_field n name ty) { deprecated = true }

-- a number that is -1 where it is absent
abbrev pub index_field : ℕ → List ℕ → Field
index_field n name = record (plain_field n name int_type) { default = negsuc 0 }

-- Tables.

abbrev pub type_table : Object
type_table = plain_table (codes "reflection.Type") (
    plain_field 0 (codes "base_type") byte_type
    ∷ plain_field 1 (codes "element") byte_type
    ∷ index_field 2 (codes "index")
    ∷ plain_field 3 (codes "fixed_length") ushort_type
    ∷ [])

abbrev pub key_value_table : Object
key_value_table = plain_table (codes "reflection.KeyValue") (
    plain_field 0 (codes "key") text_type
    ∷ plain_field 1 (codes "value") text_type
    ∷ [])

abbrev pub enum_val_table : Object
enum_val_table = plain_table (codes "reflection.EnumVal") (
    required_field 0 (codes "name") text_type
    ∷ plain_field 1 (codes "value") long_type
    ∷ deprecated_field 2 (codes "object") (object_type object_number)
    ∷ plain_field 3 (codes "union_type") (object_type type_number)
    ∷ plain_field 4 (codes "documentation") texts_type
    ∷ plain_field 5 (codes "attributes") (objects_type key_value_number)
    ∷ [])

abbrev pub enum_table : Object
enum_table = plain_table (codes "reflection.Enum") (
    required_field 0 (codes "name") text_type
    ∷ required_field 1 (codes "values") (objects_type enum_val_number)
    ∷ plain_field 2 (codes "is_union") bool_type
    ∷ plain_field 3 (codes "underlying_type") (object_type type_number)
    ∷ plain_field 4 (codes "attributes") (objects_type key_value_number)
    ∷ plain_field 5 (codes "documentation") texts_type
    ∷ plain_field 6 (codes "declaration_file") text_type
    ∷ [])

abbrev pub field_table : Object
field_table = plain_table (codes "reflection.Field") (
    required_field 0 (codes "name") text_type
    ∷ required_field 1 (codes "type") (object_type type_number)
    ∷ plain_field 2 (codes "id") ushort_type
    ∷ plain_field 3 (codes "offset") ushort_type
    ∷ plain_field 4 (codes "default_integer") long_type
    ∷ plain_field 5 (codes "default_real") double_type
    ∷ plain_field 6 (codes "deprecated") bool_type
    ∷ plain_field 7 (codes "required") bool_type
    ∷ plain_field 8 (codes "key") bool_type
    ∷ plain_field 9 (codes "attributes") (objects_type key_value_number)
    ∷ plain_field 10 (codes "documentation") texts_type
    ∷ plain_field 11 (codes "optional") bool_type
    ∷ deprecated_field 12 (codes "padding") ushort_type
    ∷ plain_field 13 (codes "offset64") bool_type
    ∷ [])

abbrev pub object_table : Object
object_table = plain_table (codes "reflection.Object") (
    required_field 0 (codes "name") text_type
    ∷ required_field 1 (codes "fields") (objects_type field_number)
    ∷ plain_field 2 (codes "is_struct") bool_type
    ∷ plain_field 3 (codes "minalign") int_type
    ∷ plain_field 4 (codes "bytesize") int_type
    ∷ plain_field 5 (codes "attributes") (objects_type key_value_number)
    ∷ plain_field 6 (codes "documentation") texts_type
    ∷ plain_field 7 (codes "declaration_file") text_type
    ∷ [])

abbrev pub call_table : Object
call_table = plain_table (codes "reflection.RPCCall") (
    plain_field 0 (codes "name") text_type
    ∷ plain_field 1 (codes "request") (object_type object_number)
    ∷ plain_field 2 (codes "response") (object_type object_number)
    ∷ plain_field 3 (codes "attributes") (objects_type key_value_number)
    ∷ plain_field 4 (codes "documentation") texts_type
    ∷ [])

abbrev pub service_table : Object
service_table = plain_table (codes "reflection.Service") (
    plain_field 0 (codes "name") text_type
    ∷ plain_field 1 (codes "calls") (objects_type call_number)
    ∷ plain_field 2 (codes "attributes") (objects_type key_value_number)
    ∷ plain_field 3 (codes "documentation") texts_type
    ∷ plain_field 4 (codes "declaration_file") text_type
    ∷ [])

abbrev pub file_table : Object
file_table = plain_table (codes "reflection.SchemaFile") (
    plain_field 0 (codes "filename") text_type
    ∷ plain_field 1 (codes "included_filenames") texts_type
    ∷ [])

abbrev pub schema_table : Object
schema_table = plain_table (codes "reflection.Schema") (
    required_field 0 (codes "objects") (objects_type object_number)
    ∷ required_field 1 (codes "enums") (objects_type enum_number)
    ∷ plain_field 2 (codes "file_ident") text_type
    ∷ plain_field 3 (codes "file_ext") text_type
    ∷ plain_field 4 (codes "root_table") (object_type object_number)
    ∷ plain_field 5 (codes "services") (objects_type service_number)
    ∷ plain_field 6 (codes "advanced_features") ulong_type
    ∷ plain_field 7 (codes "fbs_files") (objects_type file_number)
    ∷ [])

-- the ten tables in the order of their numbers; there are no enums
unfoldable pub fixed : Rows
fixed = record {
  objects =
      type_table
      ∷ key_value_table
      ∷ enum_val_table
      ∷ enum_table
      ∷ field_table
      ∷ object_table
      ∷ call_table
      ∷ service_table
      ∷ file_table
      ∷ schema_table
      ∷ [];
  enums = [];
}
