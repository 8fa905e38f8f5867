-- A schema and a buffer for examples.
use Rattle.std.specs.Prelude.{ℕ, ℤ, pos, negsuc, true, List, [], ◌∷◌, codes}
use Rattle.fb_schema.specs.{Rows.Field, Rows.Rows, Builders.struct_of, Builders.plain_member, Builders.union_of}
use Rattle.fb_rules.specs.Samples.{type_of, union_type, short, int, text, object, union, vector, field, table, monster}

-- a field of each kind, and a vector of longs behind a field that isn't used any more
abbrev pub root_fields : List Field
root_fields =
    field (codes "n") 4 short
    ∷ field (codes "text") 6 text
    ∷ field (codes "struct") 8 (object 1)
    ∷ field (codes "table") 10 (object 2)
    ∷ field (codes "u_type") 12 union_type
    ∷ field (codes "u") 14 (union 0)
    ∷ field (codes "shorts") 16 (vector 5 0)
    ∷ field (codes "structs") 18 (vector 15 1)
    ∷ field (codes "texts") 20 (vector 13 0)
    ∷ field (codes "tables") 22 (vector 15 2)
    ∷ field (codes "us_type") 24 (vector 1 0)
    ∷ field (codes "us") 26 (vector 16 0)
    ∷ record (field (codes "old") 28 int) { deprecated = true }
    ∷ field (codes "longs") 30 (vector 9 0)
    ∷ []

-- a scalar with a default: a Float or Double has the bits of a double
abbrev pub number : List ℕ → ℕ → ℕ → ℤ → Field
number name slot base default = record (field name slot (type_of base 0 0)) { default = default }

-- a field of each scalar; the Float's default is 0.1, and the Double's -0.0
abbrev pub scalar_fields : List Field
scalar_fields =
    number (codes "flag") 4 2 (pos 256)
    ∷ number (codes "byte") 6 3 (pos 255)
    ∷ number (codes "ubyte") 8 4 (negsuc 0)
    ∷ number (codes "short") 10 5 (pos 40000)
    ∷ number (codes "ushort") 12 6 (negsuc 0)
    ∷ record (number (codes "int") 14 7 (pos 7)) { optional = true }
    ∷ number (codes "uint") 16 8 (negsuc 0)
    ∷ number (codes "long") 18 9 (negsuc 0)
    ∷ number (codes "ulong") 20 10 (negsuc 0)
    ∷ number (codes "float") 22 11 (pos 0x3fb999999999999a)
    ∷ number (codes "double") 24 12 (negsuc 0x7fffffffffffffff)
    ∷ []

-- the root table, a struct of two ints and four ubytes, the table of scalars, and a union of this table, this
-- struct and a text
abbrev pub rows : Rows
rows = record {
  objects =
      table (codes "T") root_fields
      ∷ struct_of (codes "W") (pos 12) (pos 4) (field (codes "x") 0 int ∷ field (codes "y") 4 int ∷ field (codes "z") 8 (record (type_of 17 4 0) { fixed_length = 4 }) ∷ [])
      ∷ table (codes "A") scalar_fields
      ∷ [];
  enums = union_of (codes "U") (plain_member (codes "A") (pos 1) (object 2) ∷ plain_member (codes "W") (pos 2) (object 1) ∷ plain_member (codes "T") (pos 3) text ∷ []) ∷ [];
}

-- The root table at 36 has all its fields. Its union is a struct. Of its two tables A the one at 288 has all scalars,
-- and that at 340 has none. Of the unions in its vector one is the text, one of an unknown type, one the table at 288
-- and one a struct.
abbrev pub bytes : List ℕ
bytes =
    36 ∷ 0 ∷ 0 ∷ 0 ∷ 32 ∷ 0 ∷ 60 ∷ 0 ∷ 4 ∷ 0 ∷ 20 ∷ 0 ∷ 8 ∷ 0 ∷ 24 ∷ 0 ∷ 6 ∷ 0 ∷ 28 ∷ 0 ∷ 32 ∷ 0 ∷ 36 ∷ 0 ∷ 40 ∷ 0 ∷ 44 ∷ 0 ∷ 48 ∷ 0 ∷ 52 ∷ 0 ∷ 0 ∷ 0 ∷ 56 ∷ 0 ∷ 32 ∷ 0 ∷ 0 ∷ 0 ∷ 212 ∷ 254 ∷ 2 ∷ 0 ∷ 1 ∷ 2 ∷ 3 ∷ 4 ∷ 5 ∷ 6 ∷ 7 ∷ 8 ∷ 9 ∷ 10 ∷ 11 ∷ 12 ∷ 172 ∷ 0 ∷ 0 ∷ 0 ∷ 228 ∷ 0 ∷ 0 ∷ 0 ∷ 32 ∷ 0 ∷ 0 ∷ 0 ∷ 40 ∷ 0 ∷ 0 ∷ 0 ∷ 48 ∷ 0 ∷ 0 ∷ 0 ∷ 72 ∷ 0 ∷ 0 ∷ 0 ∷ 96 ∷ 0 ∷ 0 ∷ 0 ∷ 104 ∷ 0 ∷ 0 ∷ 0 ∷ 108 ∷ 0 ∷ 0 ∷ 0 ∷ 144 ∷ 0 ∷ 0 ∷ 0 ∷ 21 ∷ 22 ∷ 23 ∷ 24 ∷ 25 ∷ 26 ∷ 27 ∷ 28 ∷ 29 ∷ 30 ∷ 31 ∷ 32 ∷ 3 ∷ 0 ∷ 0 ∷ 0 ∷ 5 ∷ 0 ∷ 254 ∷ 255 ∷ 7 ∷ 0 ∷ 0 ∷ 0 ∷ 2 ∷ 0 ∷ 0 ∷ 0 ∷ 41 ∷ 42 ∷ 43 ∷ 44 ∷ 45 ∷ 46 ∷ 47 ∷ 48 ∷ 49 ∷ 50 ∷ 51 ∷ 52 ∷ 61 ∷ 62 ∷ 63 ∷ 64 ∷ 65 ∷ 66 ∷ 67 ∷ 68 ∷ 69 ∷ 70 ∷ 71 ∷ 72 ∷ 2 ∷ 0 ∷ 0 ∷ 0 ∷ 8 ∷ 0 ∷ 0 ∷ 0 ∷ 12 ∷ 0 ∷ 0 ∷ 0 ∷ 0 ∷ 0 ∷ 0 ∷ 0 ∷ 0 ∷ 0 ∷ 0 ∷ 0 ∷ 2 ∷ 0 ∷ 0 ∷ 0 ∷ 66 ∷ 111 ∷ 0 ∷ 0 ∷ 2 ∷ 0 ∷ 0 ∷ 0 ∷ 108 ∷ 0 ∷ 0 ∷ 0 ∷ 156 ∷ 0 ∷ 0 ∷ 0 ∷ 4 ∷ 0 ∷ 0 ∷ 0 ∷ 3 ∷ 9 ∷ 1 ∷ 2 ∷ 4 ∷ 0 ∷ 0 ∷ 0 ∷ 28 ∷ 0 ∷ 0 ∷ 0 ∷ 0 ∷ 0 ∷ 0 ∷ 0 ∷ 80 ∷ 0 ∷ 0 ∷ 0 ∷ 4 ∷ 0 ∷ 0 ∷ 0 ∷ 81 ∷ 82 ∷ 83 ∷ 84 ∷ 85 ∷ 86 ∷ 87 ∷ 88 ∷ 89 ∷ 90 ∷ 91 ∷ 92 ∷ 3 ∷ 0 ∷ 0 ∷ 0 ∷ 65 ∷ 100 ∷ 97 ∷ 0 ∷ 2 ∷ 0 ∷ 0 ∷ 0 ∷ 9 ∷ 0 ∷ 0 ∷ 0 ∷ 0 ∷ 0 ∷ 0 ∷ 0 ∷ 246 ∷ 255 ∷ 255 ∷ 255 ∷ 255 ∷ 255 ∷ 255 ∷ 255 ∷ 26 ∷ 0 ∷ 48 ∷ 0 ∷ 44 ∷ 0 ∷ 45 ∷ 0 ∷ 46 ∷ 0 ∷ 40 ∷ 0 ∷ 42 ∷ 0 ∷ 32 ∷ 0 ∷ 36 ∷ 0 ∷ 8 ∷ 0 ∷ 16 ∷ 0 ∷ 4 ∷ 0 ∷ 24 ∷ 0 ∷ 0 ∷ 0 ∷ 0 ∷ 0 ∷ 0 ∷ 0 ∷ 32 ∷ 0 ∷ 0 ∷ 0 ∷ 0 ∷ 0 ∷ 192 ∷ 191 ∷ 16 ∷ 50 ∷ 84 ∷ 118 ∷ 152 ∷ 186 ∷ 220 ∷ 254 ∷ 16 ∷ 50 ∷ 84 ∷ 118 ∷ 152 ∷ 186 ∷ 220 ∷ 254 ∷ 0 ∷ 0 ∷ 0 ∷ 0 ∷ 0 ∷ 0 ∷ 6 ∷ 192 ∷ 152 ∷ 186 ∷ 220 ∷ 254 ∷ 152 ∷ 186 ∷ 220 ∷ 254 ∷ 220 ∷ 254 ∷ 220 ∷ 254 ∷ 2 ∷ 254 ∷ 254 ∷ 0 ∷ 4 ∷ 0 ∷ 4 ∷ 0 ∷ 4 ∷ 0 ∷ 0 ∷ 0 ∷ []

-- the monster with a prefix that counts its 32 bytes
abbrev pub prefixed_monster : List ℕ
prefixed_monster = 32 ∷ 0 ∷ 0 ∷ 0 ∷ monster
