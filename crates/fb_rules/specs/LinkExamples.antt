-- Examples of links: faults with those that lead to them.
use Rattle.std.specs.Prelude.{ℕ, pos, true, List, [], ◌∷◌, codes, Option, Some, None}
use Rattle.fb_schema.specs.Rows.{Rows}
use Rattle.fb_rules.specs.declared.{start.Start.TheVariants.Bare, start.Ident.TheVariants.Any, fault.Reason.TheVariants.OutOfBuffer, fault.Reason.TheVariants.ZeroOffset}
use Rattle.fb_rules.specs.{declared.fault.Reason.TheVariants.TooManyTables, declared.fault.Fault.Fault, declared.link.Link.Link, Bounds.Bounds, Question.question, Links.StopsAlong}
pub use Rattle.fb_rules.specs.Samples.{fault}
use Rattle.fb_rules.specs.Samples.{published_checks, published_limits, union_type, text, object, union, vector, field, table}

-- `table M { u: U; } table H { list: [C]; } table C { name: string; } union U { H }`
abbrev pub herds : Rows
herds = record {
  objects =
      table (codes "M") (field (codes "t") 4 union_type ∷ field (codes "u") 6 (union 0) ∷ [])
      ∷ table (codes "H") (field (codes "list") 4 (vector 15 2) ∷ [])
      ∷ table (codes "C") (field (codes "name") 4 text ∷ [])
      ∷ [];
  enums = record { name = codes "U"; members = record { name = codes "H"; value = pos 1; ty = object 1 } ∷ []; is_union = true } ∷ [];
}

-- a union with a table H, whose list has the table at 60 twice, and third one at 64 whose vtable would begin before the
-- buffer
abbrev pub crooked_third : List ℕ
crooked_third =
    12 ∷ 0 ∷ 0 ∷ 0 ∷ 8 ∷ 0 ∷ 12 ∷ 0 ∷ 8 ∷ 0 ∷ 4 ∷ 0 ∷ 8 ∷ 0 ∷ 0 ∷ 0 ∷ 16 ∷ 0 ∷ 0 ∷ 0 ∷ 1 ∷ 0 ∷ 0 ∷ 0 ∷ 6 ∷ 0 ∷ 8 ∷ 0 ∷ 4 ∷ 0 ∷ 0 ∷ 0 ∷ 8 ∷ 0 ∷ 0 ∷ 0 ∷ 4 ∷ 0 ∷ 0 ∷ 0 ∷ 3 ∷ 0 ∷ 0 ∷ 0 ∷ 16 ∷ 0 ∷ 0 ∷ 0 ∷ 12 ∷ 0 ∷ 0 ∷ 0 ∷ 12 ∷ 0 ∷ 0 ∷ 0 ∷ 4 ∷ 0 ∷ 4 ∷ 0 ∷ 4 ∷ 0 ∷ 0 ∷ 0 ∷ 65 ∷ 0 ∷ 0 ∷ 0 ∷ []

-- the same with a third table that has a name, of which the offset is 0
abbrev pub nameless_third : List ℕ
nameless_third =
    12 ∷ 0 ∷ 0 ∷ 0 ∷ 8 ∷ 0 ∷ 12 ∷ 0 ∷ 8 ∷ 0 ∷ 4 ∷ 0 ∷ 8 ∷ 0 ∷ 0 ∷ 0 ∷ 16 ∷ 0 ∷ 0 ∷ 0 ∷ 1 ∷ 0 ∷ 0 ∷ 0 ∷ 6 ∷ 0 ∷ 8 ∷ 0 ∷ 4 ∷ 0 ∷ 0 ∷ 0 ∷ 8 ∷ 0 ∷ 0 ∷ 0 ∷ 4 ∷ 0 ∷ 0 ∷ 0 ∷ 3 ∷ 0 ∷ 0 ∷ 0 ∷ 16 ∷ 0 ∷ 0 ∷ 0 ∷ 12 ∷ 0 ∷ 0 ∷ 0 ∷ 12 ∷ 0 ∷ 0 ∷ 0 ∷ 4 ∷ 0 ∷ 4 ∷ 0 ∷ 4 ∷ 0 ∷ 0 ∷ 0 ∷ 40 ∷ 0 ∷ 0 ∷ 0 ∷ 0 ∷ 0 ∷ 0 ∷ 0 ∷ []

-- a union whose type would stand at 212
abbrev pub far_type : List ℕ
far_type = 12 ∷ 0 ∷ 0 ∷ 0 ∷ 8 ∷ 0 ∷ 12 ∷ 0 ∷ 200 ∷ 0 ∷ 4 ∷ 0 ∷ 8 ∷ 0 ∷ 0 ∷ 0 ∷ []

-- a root table whose vtable would begin before the buffer
abbrev pub crooked_root : List ℕ
crooked_root = 4 ∷ 0 ∷ 0 ∷ 0 ∷ 9 ∷ 0 ∷ 0 ∷ 0 ∷ []

-- a table H whose list would stand at 116
abbrev pub far_list : List ℕ
far_list = 12 ∷ 0 ∷ 0 ∷ 0 ∷ 6 ∷ 0 ∷ 8 ∷ 0 ∷ 4 ∷ 0 ∷ 0 ∷ 0 ∷ 8 ∷ 0 ∷ 0 ∷ 0 ∷ 100 ∷ 0 ∷ 0 ∷ 0 ∷ []

-- a link to a field, and to an element and a member of it
abbrev pub link : ℕ → ℕ → Option ℕ → Option ℕ → Link
link object field element member = record { object = object; field = field; element = element; member = member }

-- these links lead to this fault from the root, a table of this object
abbrev pub IsFoundBy : List ℕ → ℕ → Bounds → Fault → List Link → Type 0
IsFoundBy b root L f links = StopsAlong (question herds root Bare Any L published_checks) b f links

-- through the union and the list to its third table
abbrev pub to_third : List Link → List Link
to_third links = link 0 1 None (Some 1) ∷ link 1 0 (Some 2) None ∷ links

-- the limits with so many tables
abbrev pub with_tables : ℕ → Bounds
with_tables many = record published_limits { tables = many }

-- a fault at the start and in the head of the root, to which no link leads; in the type of a union and in the head of a
-- vector, to whose fields one leads; and in the third table of a vector that a union's table has: in its head, in a
-- field of it, and where it may not be opened, which the vector's field is told of
pub record LinksFound : Type 0 where
  pub at_the_start : IsFoundBy (0 ∷ 0 ∷ 0 ∷ 0 ∷ []) 0 published_limits (fault ZeroOffset 0 0 None 1) []
  pub at_the_root : IsFoundBy crooked_root 0 published_limits (fault OutOfBuffer 4 0 None 2) []
  pub in_a_type : IsFoundBy far_type 0 published_limits (fault OutOfBuffer 212 0 (Some 0) 4) (link 0 0 None None ∷ [])
  pub in_the_head_of_a_vector : IsFoundBy far_list 1 published_limits (fault OutOfBuffer 116 1 (Some 0) 5) (link 1 0 None None ∷ [])
  pub in_a_third_table : IsFoundBy crooked_third 0 published_limits (fault OutOfBuffer 64 2 None 21) (to_third [])
  pub in_its_field : IsFoundBy nameless_third 0 published_limits (fault ZeroOffset 68 2 (Some 0) 24) (to_third (link 2 0 None None ∷ []))
  pub one_table_too_many : IsFoundBy crooked_third 0 (with_tables 4) (fault TooManyTables 64 1 (Some 0) 20) (to_third [])
