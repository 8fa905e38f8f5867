-- Schemas and buffers for examples.
use Rattle.std.specs.Prelude.{ℕ, pos, true, false, List, [], ◌∷◌, Option, None}
use Rattle.fb_schema.specs.{declared.rows.TypeRow.TypeRow, Rows.Field, Rows.Object, Rows.Rows}
use Rattle.fb_rules.specs.{declared.checks.Checks.Checks, declared.fault.Fault.Fault, declared.fault.Reason.Reason, Bounds.Bounds}

-- the published checks and limits
abbrev pub published_checks : Checks
published_checks = record { alignment = true; inline_size = false }

abbrev pub published_limits : Bounds
published_limits = record { depth = 64; tables = 1000000; reads = None }

-- a fault, told at a field or at none
abbrev pub fault : Reason → ℕ → ℕ → Option ℕ → ℕ → Fault
fault reason at object field reads = record { reason = reason; at = at; object = object; field = field; reads = reads }

-- types by their base type, its element's, and the object or enum that is named

abbrev pub type_of : ℕ → ℕ → ℕ → TypeRow
type_of base of index = record { base = pos base; element = pos of; index = pos index; fixed_length = 0 }

abbrev pub union_type : TypeRow
union_type = type_of 1 0 0

abbrev pub short : TypeRow
short = type_of 5 0 0

abbrev pub int : TypeRow
int = type_of 7 0 0

abbrev pub long : TypeRow
long = type_of 9 0 0

abbrev pub text : TypeRow
text = type_of 13 0 0

abbrev pub object : ℕ → TypeRow
object k = type_of 15 0 k

abbrev pub union : ℕ → TypeRow
union e = type_of 16 0 e

abbrev pub vector : ℕ → ℕ → TypeRow
vector of index = type_of 14 of index

abbrev pub field : List ℕ → ℕ → TypeRow → Field
field name slot ty = record { name = name; ty = ty; slot = slot; default = pos 0; deprecated = false; required = false; optional = false; offset64 = false }

abbrev pub table : List ℕ → List Field → Object
table name fields = record { name = name; fields = fields; is_struct = false; minalign = pos 1; bytesize = pos 0 }

-- a monster's hit points and name
abbrev pub monsters : Rows
monsters = record {
  objects = table (77 ∷ []) (field (104 ∷ []) 4 short ∷ field (110 ∷ []) 6 text ∷ []) ∷ [];
  enums = [];
}

-- a table with two fields of its own type
abbrev pub nodes : Rows
nodes = record { objects = table (78 ∷ []) (field (97 ∷ []) 4 (object 0) ∷ field (98 ∷ []) 6 (object 0) ∷ []) ∷ []; enums = [] }

-- a field of every kind
abbrev pub of_every_kind : List Field
of_every_kind =
    field (97 ∷ []) 4 short
    ∷ field (98 ∷ []) 6 text
    ∷ field (99 ∷ []) 8 (object 1)
    ∷ field (100 ∷ []) 10 (object 0)
    ∷ field (101 ∷ []) 12 union_type
    ∷ field (102 ∷ []) 14 (union 0)
    ∷ field (103 ∷ []) 16 (vector 9 0)
    ∷ field (104 ∷ []) 18 (vector 15 1)
    ∷ field (105 ∷ []) 20 (vector 13 0)
    ∷ field (106 ∷ []) 22 (vector 15 0)
    ∷ field (107 ∷ []) 24 (vector 1 0)
    ∷ field (108 ∷ []) 26 (vector 16 0)
    ∷ []

-- a union of a table A, a struct W and a text: one of it in the table R, object 2, a vector of it in the table Q,
-- object 3, and a field of every kind in the table K, object 4
abbrev pub unions : Rows
unions = record {
  objects =
      table (65 ∷ []) (field (118 ∷ []) 4 int ∷ [])
      ∷ record { name = 87 ∷ []; fields = field (120 ∷ []) 0 long ∷ []; is_struct = true; minalign = pos 8; bytesize = pos 8 }
      ∷ table (82 ∷ []) (field (116 ∷ []) 4 union_type ∷ field (117 ∷ []) 6 (union 0) ∷ [])
      ∷ table (81 ∷ []) (field (116 ∷ []) 4 (vector 1 0) ∷ field (117 ∷ []) 6 (vector 16 0) ∷ [])
      ∷ table (75 ∷ []) of_every_kind
      ∷ [];
  enums =
      record {
        name = 85 ∷ [];
        members = record { name = 65 ∷ []; value = pos 1; ty = object 0 } ∷ record { name = 87 ∷ []; value = pos 2; ty = object 1 } ∷ record { name = 84 ∷ []; value = pos 3; ty = text } ∷ [];
        is_union = true;
      }
      ∷ [];
}

-- a monster named Orc with 300 hit points: its table's inline size, its name's offset, and the byte behind its name
abbrev pub orc : ℕ → ℕ → ℕ → List ℕ
orc inline offset behind =
    12 ∷ 0 ∷ 0 ∷ 0 ∷ 8 ∷ 0 ∷ inline ∷ 0 ∷ 8 ∷ 0 ∷ 4 ∷ 0 ∷ 8 ∷ 0 ∷ 0 ∷ 0 ∷ offset ∷ 0 ∷ 0 ∷ 0 ∷ 44 ∷ 1 ∷ 0 ∷ 0 ∷ 3 ∷ 0 ∷ 0 ∷ 0 ∷ 79 ∷ 114 ∷ 99 ∷ behind ∷ []

abbrev pub monster : List ℕ
monster = orc 12 8 0

-- the same with 1 for the name's terminator
abbrev pub open_name : List ℕ
open_name = orc 12 8 1

-- a union whose value is a table A
abbrev pub one_member : List ℕ
one_member =
    12 ∷ 0 ∷ 0 ∷ 0 ∷ 8 ∷ 0 ∷ 12 ∷ 0 ∷ 8 ∷ 0 ∷ 4 ∷ 0 ∷ 8 ∷ 0 ∷ 0 ∷ 0 ∷ 16 ∷ 0 ∷ 0 ∷ 0 ∷ 1 ∷ 0 ∷ 0 ∷ 0 ∷ 6 ∷ 0 ∷ 8 ∷ 0 ∷ 4 ∷ 0 ∷ 0 ∷ 0 ∷ 8 ∷ 0 ∷ 0 ∷ 0 ∷ 5 ∷ 0 ∷ 0 ∷ 0 ∷ []

-- the same with a vtable of 7 bytes for the table A
abbrev pub odd_vtable : List ℕ
odd_vtable =
    12 ∷ 0 ∷ 0 ∷ 0 ∷ 8 ∷ 0 ∷ 12 ∷ 0 ∷ 8 ∷ 0 ∷ 4 ∷ 0 ∷ 8 ∷ 0 ∷ 0 ∷ 0 ∷ 16 ∷ 0 ∷ 0 ∷ 0 ∷ 1 ∷ 0 ∷ 0 ∷ 0 ∷ 7 ∷ 0 ∷ 8 ∷ 0 ∷ 4 ∷ 0 ∷ 0 ∷ 0 ∷ 8 ∷ 0 ∷ 0 ∷ 0 ∷ 5 ∷ 0 ∷ 0 ∷ 0 ∷ []

-- a union whose value is a struct W at 28, which is no multiple of 8
abbrev pub crooked_struct : List ℕ
crooked_struct =
    12 ∷ 0 ∷ 0 ∷ 0 ∷ 8 ∷ 0 ∷ 12 ∷ 0 ∷ 8 ∷ 0 ∷ 4 ∷ 0 ∷ 8 ∷ 0 ∷ 0 ∷ 0 ∷ 12 ∷ 0 ∷ 0 ∷ 0 ∷ 2 ∷ 0 ∷ 0 ∷ 0 ∷ 0 ∷ 0 ∷ 0 ∷ 0 ∷ 7 ∷ 0 ∷ 0 ∷ 0 ∷ 0 ∷ 0 ∷ 0 ∷ 0 ∷ []

-- two unions, a text and one without a value
abbrev pub two_members : List ℕ
two_members =
    12 ∷ 0 ∷ 0 ∷ 0 ∷ 8 ∷ 0 ∷ 12 ∷ 0 ∷ 4 ∷ 0 ∷ 8 ∷ 0 ∷ 8 ∷ 0 ∷ 0 ∷ 0 ∷ 8 ∷ 0 ∷ 0 ∷ 0 ∷ 12 ∷ 0 ∷ 0 ∷ 0 ∷ 2 ∷ 0 ∷ 0 ∷ 0 ∷ 3 ∷ 0 ∷ 0 ∷ 0 ∷ 2 ∷ 0 ∷ 0 ∷ 0 ∷ 8 ∷ 0 ∷ 0 ∷ 0 ∷ 0 ∷ 0 ∷ 0 ∷ 0 ∷ 2 ∷ 0 ∷ 0 ∷ 0 ∷ 104 ∷ 105 ∷ 0 ∷ 0 ∷ []

-- two types and three values
abbrev pub three_values : List ℕ
three_values =
    12 ∷ 0 ∷ 0 ∷ 0 ∷ 8 ∷ 0 ∷ 12 ∷ 0 ∷ 4 ∷ 0 ∷ 8 ∷ 0 ∷ 8 ∷ 0 ∷ 0 ∷ 0 ∷ 8 ∷ 0 ∷ 0 ∷ 0 ∷ 12 ∷ 0 ∷ 0 ∷ 0 ∷ 2 ∷ 0 ∷ 0 ∷ 0 ∷ 0 ∷ 0 ∷ 0 ∷ 0 ∷ 3 ∷ 0 ∷ 0 ∷ 0 ∷ 0 ∷ 0 ∷ 0 ∷ 0 ∷ 0 ∷ 0 ∷ 0 ∷ 0 ∷ 0 ∷ 0 ∷ 0 ∷ 0 ∷ []

-- a root with two equal subtables, each with two equal subtables
abbrev pub shared : List ℕ
shared =
    16 ∷ 0 ∷ 0 ∷ 0 ∷ 8 ∷ 0 ∷ 12 ∷ 0 ∷ 4 ∷ 0 ∷ 8 ∷ 0 ∷ 4 ∷ 0 ∷ 4 ∷ 0 ∷ 12 ∷ 0 ∷ 0 ∷ 0 ∷ 8 ∷ 0 ∷ 0 ∷ 0 ∷ 4 ∷ 0 ∷ 0 ∷ 0 ∷ 24 ∷ 0 ∷ 0 ∷ 0 ∷ 8 ∷ 0 ∷ 0 ∷ 0 ∷ 4 ∷ 0 ∷ 0 ∷ 0 ∷ 28 ∷ 0 ∷ 0 ∷ 0 ∷ []

-- a field of every kind: a short, a text, a struct, a table, a union with a text, a vector of longs, one of structs,
-- one of two texts, one of a table twice, and one of unions with a struct, a table and an unknown type
abbrev pub every_kind : List ℕ
every_kind =
    32 ∷ 0 ∷ 0 ∷ 0 ∷ 28 ∷ 0 ∷ 52 ∷ 0 ∷ 4 ∷ 0 ∷ 16 ∷ 0 ∷ 8 ∷ 0 ∷ 20 ∷ 0 ∷ 6 ∷ 0 ∷ 24 ∷ 0 ∷ 28 ∷ 0 ∷ 32 ∷ 0 ∷ 36 ∷ 0 ∷ 40 ∷ 0 ∷ 44 ∷ 0 ∷ 48 ∷ 0 ∷ 28 ∷ 0 ∷ 0 ∷ 0 ∷ 44 ∷ 1 ∷ 3 ∷ 0 ∷ 7 ∷ 0 ∷ 0 ∷ 0 ∷ 0 ∷ 0 ∷ 0 ∷ 0 ∷ 136 ∷ 0 ∷ 0 ∷ 0 ∷ 116 ∷ 0 ∷ 0 ∷ 0 ∷ 128 ∷ 0 ∷ 0 ∷ 0 ∷ 24 ∷ 0 ∷ 0 ∷ 0 ∷ 36 ∷ 0 ∷ 0 ∷ 0 ∷ 44 ∷ 0 ∷ 0 ∷ 0 ∷ 52 ∷ 0 ∷ 0 ∷ 0 ∷ 60 ∷ 0 ∷ 0 ∷ 0 ∷ 64 ∷ 0 ∷ 0 ∷ 0 ∷ 1 ∷ 0 ∷ 0 ∷ 0 ∷ 5 ∷ 0 ∷ 0 ∷ 0 ∷ 0 ∷ 0 ∷ 0 ∷ 0 ∷ 0 ∷ 0 ∷ 0 ∷ 0 ∷ 1 ∷ 0 ∷ 0 ∷ 0 ∷ 6 ∷ 0 ∷ 0 ∷ 0 ∷ 0 ∷ 0 ∷ 0 ∷ 0 ∷ 2 ∷ 0 ∷ 0 ∷ 0 ∷ 68 ∷ 0 ∷ 0 ∷ 0 ∷ 64 ∷ 0 ∷ 0 ∷ 0 ∷ 2 ∷ 0 ∷ 0 ∷ 0 ∷ 40 ∷ 0 ∷ 0 ∷ 0 ∷ 36 ∷ 0 ∷ 0 ∷ 0 ∷ 3 ∷ 0 ∷ 0 ∷ 0 ∷ 2 ∷ 1 ∷ 9 ∷ 0 ∷ 3 ∷ 0 ∷ 0 ∷ 0 ∷ 28 ∷ 0 ∷ 0 ∷ 0 ∷ 16 ∷ 0 ∷ 0 ∷ 0 ∷ 0 ∷ 0 ∷ 0 ∷ 0 ∷ 6 ∷ 0 ∷ 8 ∷ 0 ∷ 4 ∷ 0 ∷ 0 ∷ 0 ∷ 8 ∷ 0 ∷ 0 ∷ 0 ∷ 9 ∷ 0 ∷ 0 ∷ 0 ∷ 8 ∷ 0 ∷ 0 ∷ 0 ∷ 0 ∷ 0 ∷ 0 ∷ 0 ∷ 2 ∷ 0 ∷ 0 ∷ 0 ∷ 97 ∷ 98 ∷ 0 ∷ 0 ∷ []
