-- Rows in few words: what the builders of rows make, with everything off that isn't named.
use Rattle.std.specs.Prelude.{ℕ, ℤ, pos, negsuc, List, true, false}
use Rattle.fb_schema.specs.{declared.rows.TypeRow.TypeRow, Rows.Field, Rows.Object, Rows.Member, Rows.Enum}

-- the type of one value that names nothing
abbrev pub type_of_one : ℤ → TypeRow
type_of_one base = record { base = base; element = pos 0; index = negsuc 0; fixed_length = 0 }

-- the type of a vector of values that name nothing
abbrev pub type_of_vector : ℤ → TypeRow
type_of_vector element = record { base = pos 14; element = element; index = negsuc 0; fixed_length = 0 }

-- the type of an array of so many values that name nothing
abbrev pub type_of_array : ℤ → ℕ → TypeRow
type_of_array element n = record { base = pos 17; element = element; index = negsuc 0; fixed_length = n }

-- a live field that may be absent, without a default
abbrev pub plain_field : List ℕ → ℕ → TypeRow → Field
plain_field name slot ty = record { name = name; ty = ty; slot = slot; default = pos 0; deprecated = false; required = false; optional = false; offset64 = false }

-- a table
abbrev pub plain_table : List ℕ → List Field → Object
plain_table name fields = record { name = name; fields = fields; is_struct = false; minalign = pos 1; bytesize = pos 0 }

-- a struct of so many bytes, aligned to so many
abbrev pub struct_of : List ℕ → ℤ → ℤ → List Field → Object
struct_of name bytesize minalign fields = record { name = name; fields = fields; is_struct = true; minalign = minalign; bytesize = bytesize }

-- a member of a union, or a value of an enum
abbrev pub plain_member : List ℕ → ℤ → TypeRow → Member
plain_member name value ty = record { name = name; value = value; ty = ty }

-- a union
abbrev pub union_of : List ℕ → List Member → Enum
union_of name members = record { name = name; members = members; is_union = true }

-- an enum that is no union
abbrev pub enum_of_values : List ℕ → List Member → Enum
enum_of_values name values = record { name = name; members = values; is_union = false }
