-- The members of unions, found by value and by name.
use Rattle.std.specs.Prelude.{ℕ, ℤ, pos, negsuc, ◌&&◌, nat_lt, Bool, false, if◌then◌else◌, List, [], filter, find, slice_get, unsigned_abs, Option, Some, None, option_map, option_and_then, bytes_eq}
use Rattle.std.specs.Ordering.{int_eq}
use Rattle.fb_schema.specs.{declared.kinds.Kind.Kind, Rows.Member, Rows.Enum, Rows.Rows, Kinds.kind_of}

-- a value from 1 to 255: 0 is the union without a value
abbrev pub is_member_value : ℤ → Bool
is_member_value (pos n) = nat_lt 0 n && nat_lt n 256
is_member_value (negsuc n) = false

abbrev pub members_in : Option Enum → List Member
members_in None = []
members_in (Some e) = if e.is_union then filter (λ m. is_member_value m.value) e.members else []

-- the members of union e with values 1 to 255, in the list's order; none where e is no union
abbrev pub members_of : Rows → ℕ → List Member
members_of rows e = members_in (slice_get rows.enums e)

-- the kind of the member of union e with this value
unfoldable pub member_of : Rows → ℕ → ℕ → Option Kind
member_of rows e value = option_and_then (λ m. kind_of rows m.ty) (find (λ m. int_eq m.value (pos value)) (members_of rows e))

-- the value of the member of union e with this name
unfoldable pub member_named : Rows → ℕ → List ℕ → Option ℕ
member_named rows e name = option_map (λ m. unsigned_abs m.value) (find (λ m. bytes_eq m.name name) (members_of rows e))

-- the name of the member of union e with this value
unfoldable pub member_name : Rows → ℕ → ℕ → Option (List ℕ)
member_name rows e value = option_map (λ m. m.name) (find (λ m. int_eq m.value (pos value)) (members_of rows e))
