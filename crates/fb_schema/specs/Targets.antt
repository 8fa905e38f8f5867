-- What the uoffsets of a union lead to, found by their types.
use Rattle.std.specs.Prelude.{◌≡◌, ℕ, zero, suc, ℤ, pos, ◌+◌, ◌<◌, ◌≤◌, ◌==◌, nat_lt, min, if◌then◌else◌, true, List, [], map}
use Rattle.std.specs.Prelude.{filter, find, length, slice_get, slice_index_or, Option, Some, None, option_and_then}
use Rattle.std.specs.Ordering.{int_eq, int_cmp}
use Rattle.fb_schema.specs.declared.{kinds.Kind.Kind, flat.EnumPart.EnumPart, rows.MemberRow.MemberRow, views.Goal.Goal, views.Target.Target}
use Rattle.fb_schema.specs.declared.kinds.Kind.TheVariants.{Scalar, Text, Struct, Table, Union, Scalars, Texts, Structs, Tables, Unions}
use Rattle.fb_schema.specs.declared.views.Goal.TheVariants.{Nothing, Text as AText, Table as ATable, Struct as AStruct}
use Rattle.fb_schema.specs.{Demands.first_code, Demands.members_asked, Flat.part, Kinds.kind_of, Kinds.struct_size, Kinds.struct_align}
use Rattle.fb_schema.specs.{Members.is_member_value, Rows.Rows, Rows.Member, Rows.member_of_row, Sorting.IsOrderOf, Sorting.member_value}

-- the kind of a member with this goal and object
abbrev pub kind_by : Goal → ℕ → Option Kind
kind_by Nothing object = None
kind_by AText object = Some Text
kind_by ATable object = Some (Table object)
kind_by AStruct object = Some (Struct object)

-- nothing
abbrev pub nothing : Target
nothing = record { goal = Nothing; object = 0; size = 0; align = 0 }

-- what a uoffset leads to whose type has a member of this kind
abbrev pub target_of : Rows → Option Kind → Target
target_of rows None = nothing
target_of rows (Some (Scalar s)) = nothing
target_of rows (Some Text) = record { goal = AText; object = 0; size = 0; align = 0 }
target_of rows (Some (Struct k)) = record { goal = AStruct; object = k; size = struct_size rows k; align = struct_align rows k }
target_of rows (Some (Table k)) = record { goal = ATable; object = k; size = 0; align = 0 }
target_of rows (Some (Union e)) = nothing
target_of rows (Some (Scalars s)) = nothing
target_of rows (Some Texts) = nothing
target_of rows (Some (Structs k)) = nothing
target_of rows (Some (Tables k)) = nothing
target_of rows (Some (Unions e)) = nothing

-- the kind of the member that leads there
abbrev pub kind_to : Target → Option Kind
kind_to t = kind_by t.goal t.object

-- the place of a value among so many first ones, sought from the last of them down to a lower one; without it the end
abbrev pub place_below : List ℕ → ℕ → ℕ → ℕ
place_below values value zero = length values
place_below values value (suc k) =
    if slice_index_or values k 0 == value then k
    else if nat_lt value (slice_index_or values k 0) then place_below values value k else length values

-- among rising values, none of which stands behind the place that is the value itself
abbrev pub place_among : List ℕ → ℕ → ℕ
place_among values value = place_below values value (min (value + 1) (length values))

-- what a type of this value leads to, by the rising values of members and the targets of these: nothing where no member
-- has it
abbrev pub target_at : List ℕ → List Target → ℕ → Target
target_at places targets value = slice_index_or targets (place_among places value) nothing

-- the kind of the one of these members that has this value from 1 to 255
abbrev pub kind_among : Rows → List Member → ℕ → Option Kind
kind_among rows members value = option_and_then (λ m. kind_of rows m.ty) (find (λ m. int_eq m.value (pos value)) (filter (λ m. is_member_value m.value) members))

-- at each value the target of the member that has it, and nothing where none has
pub record AreTargets (rows : Rows) (members : List Member) (places : List ℕ) (targets : List Target) : Type 0 where
  pub at : (value : ℕ) → value < 256 → target_at places targets value ≡ target_of rows (kind_among rows members value)

-- up to a bound, rising values, what each of them leads to, and that all others lead to nothing
pub record LeadBelow (wanted : ℕ → Target) (bound : ℕ) (places : List ℕ) (targets : List Target) : Type 0 where
  pub long : length targets ≡ length places
  pub few : length places ≤ bound
  pub skip : (k : ℕ) → k < length places → k ≤ slice_index_or places k 0
  pub rise : (j k : ℕ) → j < k → k < length places → slice_index_or places j 0 < slice_index_or places k 0
  pub upto : (k : ℕ) → k < length places → slice_index_or places k 0 < bound
  pub leads : (k : ℕ) → k < length places → slice_index_or targets k nothing ≡ wanted (slice_index_or places k 0)
  pub others : (value : ℕ) → value < bound → ((k : ℕ) → k < length places → slice_index_or places k 0 ≡ value → ⊥) → wanted value ≡ nothing

-- no value of these is one from this bound on that a type can be
pub record EndsValues (values : List (ℤ × ℕ)) (end : ℕ) : Type 0 where
  pub low : 1 ≤ end
  pub high : end ≤ 256
  pub none : (v k : ℕ) (d : ℤ × ℕ) → end ≤ v → v < 256 → k < length values → (slice_index_or values k d).0 ≡ pos v → ⊥

-- the same of each union among these enums
pub record HaveTargets (rows : Rows) (members : List MemberRow) (enums : List EnumPart) (places : List (List ℕ)) (targets : List (List Target)) : Type 0 where
  pub long_places : length places ≡ length enums
  pub long_targets : length targets ≡ length enums
  pub at : (n : ℕ) (row : EnumPart) → slice_get enums n ≡ Some row → row.is_union ≡ true
      → AreTargets rows (map member_of_row (part members row.members)) (slice_index_or places n []) (slice_index_or targets n [])

-- the values of members that break no demand in order, and their kinds
pub record AreSorted (rows : Rows) (members : List MemberRow) (values : List (ℤ × ℕ)) (kinds : List (Option Kind)) : Type 0 where
  pub clear : (q : ℕ) → first_code (members_asked rows (map member_of_row members) q) ≡ None
  pub rise : IsOrderOf int_cmp (map member_value members) values
  pub are : kinds ≡ map (λ m. kind_of rows (member_of_row m).ty) members
