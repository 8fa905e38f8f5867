-- What is demanded of rows, each demand with its key, and the first that isn't met.
use Rattle.std.specs.Prelude.{◌≡◌, ℕ, zero, suc, ◌+◌, ◌%◌, ◌<◌, ◌⊎◌, ℤ, pos, negsuc, ◌+ℤ◌, ◌*ℤ◌, int_lt, Bool, true, false, not, ◌&&◌, ◌||◌}
use Rattle.std.specs.Prelude.{◌==◌, nat_lt, if◌then◌else◌, List, [], ◌∷◌, take, slice_get, Option, Some, None, is_none, bytes_eq}
use Rattle.std.specs.{List.list_any, Ordering.int_eq}
use Rattle.fb_schema.specs.declared.{rows.TypeRow.TypeRow, kinds.Scalar.TheVariants.UType, kinds.Element.Element, kinds.Shape.Shape, kinds.Shape.TheVariants.One}
use Rattle.fb_schema.specs.declared.kinds.{Shape.TheVariants.Vector, Shape.TheVariants.Array, TypeField.TypeField, TypeField.TheVariants.ForUnion, TypeField.TheVariants.ForUnions}
use Rattle.fb_schema.specs.declared.{fault.Code.Code, fault.SchemaFault.SchemaFault, kinds.Element.TheVariants.Scalar as OfScalar, kinds.Element.TheVariants.Text as OfText}
use Rattle.fb_schema.specs.declared.{kinds.Element.TheVariants.Object as OfObject, kinds.Element.TheVariants.Union as OfUnion, fault.Code.TheVariants.NoSuchObject}
use Rattle.fb_schema.specs.declared.fault.Code.TheVariants.{NoSuchEnum, Unsupported, BadSlot, NoTypeField, BadStruct, BadMember, NameTwice, OutOfMemory}
use Rattle.fb_schema.specs.{Rows.Field, Rows.Object, Rows.Member, Rows.Enum, Rows.Rows, Rows.entry_at, Rows.is_some_table, Rows.is_some_union, Kinds.shape_of, Kinds.scalar_size}

-- a demand of its code, and whether the rows break it
pub record Demand : Type 0 where
  pub code : Code
  pub broken : Bool

-- an item before place p is like x
abbrev pub stands_before : {X : Type 0} → (X → X → Bool) → List X → ℕ → X → Bool
stands_before same xs p x = list_any (λ y. same y x) (take p xs)

abbrev pub same_object_name : Object → Object → Bool
same_object_name a b = bytes_eq a.name b.name

abbrev pub same_field_name : Field → Field → Bool
same_field_name a b = bytes_eq a.name b.name

abbrev pub same_slot : Field → Field → Bool
same_slot a b = a.slot == b.slot

abbrev pub same_value : Member → Member → Bool
same_value a b = int_eq a.value b.value

-- two members that are not the union without a value have one name
abbrev pub same_member_name : Member → Member → Bool
same_member_name a b = not (int_eq a.value (pos 0)) && not (int_eq b.value (pos 0)) && bytes_eq a.name b.name

-- What a type is and what it names.

-- one scalar or object, or an array of these: what a struct may hold
abbrev pub is_inline_element : Element → Bool
is_inline_element (OfScalar s) = true
is_inline_element OfObject = true
is_inline_element _ = false

abbrev pub is_inline : Option Shape → Bool
is_inline (Some (One e)) = is_inline_element e
is_inline (Some (Array e)) = is_inline_element e
is_inline _ = false

-- one value of any element, or a vector of these: what a table may hold
abbrev pub is_supported : Option Shape → Bool
is_supported (Some (One e)) = true
is_supported (Some (Vector e)) = true
is_supported _ = false

-- an object or a text: what a union may hold
abbrev pub is_for_member : Option Shape → Bool
is_for_member (Some (One OfObject)) = true
is_for_member (Some (One OfText)) = true
is_for_member _ = false

abbrev pub is_object : Option Shape → Bool
is_object (Some (One OfObject)) = true
is_object (Some (Vector OfObject)) = true
is_object (Some (Array OfObject)) = true
is_object _ = false

abbrev pub is_union_shape : Option Shape → Bool
is_union_shape (Some (One OfUnion)) = true
is_union_shape (Some (Vector OfUnion)) = true
is_union_shape _ = false

-- the type, or its element, is an object that isn't there
unfoldable pub names_no_object : Rows → TypeRow → Bool
names_no_object rows ty = is_object (shape_of ty) && is_none (entry_at rows.objects ty.index)

-- the type, or its element, is an object that is a table
unfoldable pub names_table : Rows → TypeRow → Bool
names_table rows ty = is_object (shape_of ty) && is_some_table (entry_at rows.objects ty.index)

-- the type, or its element, is a union that isn't there or is no union
unfoldable pub names_no_union : Rows → TypeRow → Bool
names_no_union rows ty = is_union_shape (shape_of ty) && not (is_some_union (entry_at rows.enums ty.index))

-- Structs.

-- a power of two from 1 to 256
abbrev pub is_alignment : ℤ → Bool
is_alignment (pos n) = list_any (λ a. n == a) (1 ∷ 2 ∷ 4 ∷ 8 ∷ 16 ∷ 32 ∷ 64 ∷ 128 ∷ 256 ∷ [])
is_alignment (negsuc n) = false

-- the bytes of the object that is there, as its row has them
abbrev pub bytes_in : Option Object → ℤ
bytes_in None = pos 0
bytes_in (Some o) = o.bytesize

abbrev pub element_bytes : Option Object → Element → ℤ
element_bytes o (OfScalar s) = pos (scalar_size s)
element_bytes o OfObject = bytes_in o
element_bytes o _ = pos 0

abbrev pub shape_bytes : ℕ → Option Object → Option Shape → ℤ
shape_bytes count o (Some (One e)) = element_bytes o e
shape_bytes count o (Some (Array e)) = pos count *ℤ element_bytes o e
shape_bytes count o _ = pos 0

-- the bytes that a struct's field of this type takes
unfoldable pub inline_bytes : Rows → TypeRow → ℤ
inline_bytes rows ty = shape_bytes ty.fixed_length (entry_at rows.objects ty.index) (shape_of ty)

-- the field ends past the end of a struct of so many bytes
abbrev pub passes_end : Rows → ℤ → Field → Bool
passes_end rows bytesize f = int_lt bytesize (pos f.slot +ℤ inline_bytes rows f.ty)

-- Tables.

-- one type byte, for a union, or a vector of type bytes, for a vector of unions
abbrev pub is_type_field : TypeField → Option Shape → Bool
is_type_field ForUnion (Some (One (OfScalar UType))) = true
is_type_field ForUnions (Some (Vector (OfScalar UType))) = true
is_type_field _ _ = false

-- a live type field has the slot two below this one
abbrev pub stands_below : TypeField → List Field → ℕ → Bool
stands_below wanted fields slot = list_any (λ g. not g.deprecated && (g.slot + 2 == slot) && is_type_field wanted (shape_of g.ty)) fields

-- a union without a type byte below, or a vector of unions without a vector of type bytes below
abbrev pub lacks_type_field : Option Shape → Bool → Bool → Bool
lacks_type_field (Some (One OfUnion)) byte vector = not byte
lacks_type_field (Some (Vector OfUnion)) byte vector = not vector
lacks_type_field _ byte vector = false

-- The demands, each list in the order in which they are asked.

-- of an object, where an earlier one has its name or not
abbrev pub object_demands : Object → Bool → List Demand
object_demands o named =
    record { code = NameTwice; broken = named }
    ∷ record { code = BadStruct; broken = o.is_struct && (int_lt o.bytesize (pos 1) || not (is_alignment o.minalign)) }
    ∷ []

-- of a field of a struct of so many bytes, where an earlier one has its name or not
abbrev pub struct_field_demands : Rows → ℤ → Field → Bool → List Demand
struct_field_demands rows bytesize f named =
    record { code = NameTwice; broken = named }
    ∷ record { code = BadStruct; broken = not (is_inline (shape_of f.ty)) }
    ∷ record { code = NoSuchObject; broken = names_no_object rows f.ty }
    ∷ record { code = BadStruct; broken = names_table rows f.ty }
    ∷ record { code = BadStruct; broken = passes_end rows bytesize f }
    ∷ []

-- of a field of a table, where an earlier one has its name or not, its slot or not, and where a type byte and a vector
-- of type bytes stand in the slot two below or not
abbrev pub table_field_demands : Rows → Field → Bool → Bool → Bool → Bool → List Demand
table_field_demands rows f named taken byte vector =
    record { code = NameTwice; broken = named }
    ∷ record { code = BadSlot; broken = not (f.slot % 2 == 0) || nat_lt f.slot 4 || taken }
    ∷ record { code = Unsupported; broken = not f.deprecated && (f.offset64 || not (is_supported (shape_of f.ty))) }
    ∷ record { code = NoSuchObject; broken = not f.deprecated && names_no_object rows f.ty }
    ∷ record { code = NoSuchEnum; broken = not f.deprecated && names_no_union rows f.ty }
    ∷ record { code = NoTypeField; broken = not f.deprecated && lacks_type_field (shape_of f.ty) byte vector }
    ∷ []

-- of a union's member, where an earlier one has its value or not, and its name or not
abbrev pub member_demands : Rows → Member → Bool → Bool → List Demand
member_demands rows m taken named =
    record { code = BadMember; broken = int_lt m.value (pos 0) || int_lt (pos 255) m.value || taken }
    ∷ record { code = NameTwice; broken = named }
    ∷ record { code = BadMember; broken = not (int_eq m.value (pos 0)) && not (is_for_member (shape_of m.ty)) }
    ∷ record { code = NoSuchObject; broken = not (int_eq m.value (pos 0)) && names_no_object rows m.ty }
    ∷ []

-- The demands by their keys.

-- Where a demand stands: 0 for objects and 1 for enums, the number of the object or enum, 0 before its list and p + 1
-- at the item at p, and the demand's place among those of the item.
pub record Key : Type 0 where
  pub level : ℕ
  pub number : ℕ
  pub place : ℕ
  pub line : ℕ

-- the earlier of two keys
abbrev pub IsBefore : Key → Key → Type 0
IsBefore a b =
    (a.level < b.level)
    ⊎ ((a.level ≡ b.level) × ((a.number < b.number) ⊎ ((a.number ≡ b.number) × ((a.place < b.place) ⊎ ((a.place ≡ b.place) × (a.line < b.line))))))

-- of the object at n
abbrev pub demands_of_head : Rows → ℕ → Object → List Demand
demands_of_head rows n o = object_demands o (stands_before same_object_name rows.objects n o)

-- of the field at p of a struct
abbrev pub demands_of_struct_field : Rows → ℤ → List Field → ℕ → Option Field → List Demand
demands_of_struct_field rows bytesize fields p None = []
demands_of_struct_field rows bytesize fields p (Some f) = struct_field_demands rows bytesize f (stands_before same_field_name fields p f)

-- of the field at p of a table
abbrev pub demands_of_table_field : Rows → List Field → ℕ → Option Field → List Demand
demands_of_table_field rows fields p None = []
demands_of_table_field rows fields p (Some f) = table_field_demands rows f (stands_before same_field_name fields p f)
    (stands_before same_slot fields p f) (stands_below ForUnion fields f.slot) (stands_below ForUnions fields f.slot)

-- of the field at p of an object
abbrev pub demands_of_field : Rows → Object → ℕ → List Demand
demands_of_field rows o p = if o.is_struct then demands_of_struct_field rows o.bytesize o.fields p (slice_get o.fields p) else demands_of_table_field rows o.fields p (slice_get o.fields p)

abbrev pub demands_of_object : Rows → ℕ → ℕ → Option Object → List Demand
demands_of_object rows n place None = []
demands_of_object rows n zero (Some o) = demands_of_head rows n o
demands_of_object rows n (suc p) (Some o) = demands_of_field rows o p

-- of the member at p of a union
abbrev pub demands_of_member : Rows → List Member → ℕ → Option Member → List Demand
demands_of_member rows members p None = []
demands_of_member rows members p (Some m) = member_demands rows m (stands_before same_value members p m) (stands_before same_member_name members p m)

-- of the member at p of an enum, which is asked nothing where it is no union
abbrev pub demands_of_union : Rows → Enum → ℕ → List Demand
demands_of_union rows e p = if e.is_union then demands_of_member rows e.members p (slice_get e.members p) else []

abbrev pub demands_of_enum : Rows → ℕ → Option Enum → List Demand
demands_of_enum rows place None = []
demands_of_enum rows zero (Some e) = []
demands_of_enum rows (suc p) (Some e) = demands_of_union rows e p

-- the demands of an owner's place
abbrev pub demands_at : Rows → ℕ → ℕ → ℕ → List Demand
demands_at rows zero number place = demands_of_object rows number place (slice_get rows.objects number)
demands_at rows (suc zero) number place = demands_of_enum rows place (slice_get rows.enums number)
demands_at rows (suc (suc level)) number place = []

-- the rows break the demand at this key, which is of this code
abbrev pub IsBroken : Rows → Key → Code → Type 0
IsBroken rows k code = slice_get (demands_at rows k.level k.number k.place) k.line ≡ Some (record { code = code; broken = true })

-- the rows are a schema: no demand is broken
pub record IsLegal (rows : Rows) : Type 0 where
  pub none : (k : Key) (code : Code) → IsBroken rows k code → ⊥

-- the item that a key's place stands for
abbrev pub part_of : ℕ → Option ℕ
part_of zero = None
part_of (suc p) = Some p

-- the fault names the broken demand of least key
pub record IsFirstIllegal (rows : Rows) (fault : SchemaFault) : Type 0 where
  pub key : Key
  pub broken : IsBroken rows key fault.code
  pub owner : fault.owner ≡ key.number
  pub part : fault.part ≡ part_of key.place
  pub first : (k : Key) (code : Code) → IsBefore k key → IsBroken rows k code → ⊥

-- the code of the first broken demand of a list
abbrev pub first_code : List Demand → Option Code
first_code [] = None
first_code (d ∷ ds) = if d.broken then Some d.code else first_code ds

-- none of the lists has a broken demand, or the first that has one stands at this place
abbrev pub IsFirstOf : (ℕ → List Demand) → Option (Code × ℕ) → Type 0
IsFirstOf asked None = (p : ℕ) → first_code (asked p) ≡ None
IsFirstOf asked (Some first) = (first_code (asked first.1) ≡ Some first.0) × ((p : ℕ) → p < first.1 → first_code (asked p) ≡ None)

-- no demand of this level is broken
pub record AreClear (rows : Rows) (level : ℕ) : Type 0 where
  pub at : (number place : ℕ) → first_code (demands_at rows level number place) ≡ None

-- the demands of a list's places, one after another
abbrev pub struct_asked : Rows → ℤ → List Field → ℕ → List Demand
struct_asked rows bytesize fields p = demands_of_struct_field rows bytesize fields p (slice_get fields p)

abbrev pub table_asked : Rows → List Field → ℕ → List Demand
table_asked rows fields p = demands_of_table_field rows fields p (slice_get fields p)

abbrev pub members_asked : Rows → List Member → ℕ → List Demand
members_asked rows members p = demands_of_member rows members p (slice_get members p)

-- the place is this one
abbrev pub is_at : Option ℕ → ℕ → Bool
is_at None p = false
is_at (Some k) p = k == p

-- memory ran out
pub record IsOutOfMemory (fault : SchemaFault) : Type 0 where
  pub code : fault.code ≡ OutOfMemory
  pub owner : fault.owner ≡ 0
  pub part : fault.part ≡ None

-- the fault is the first, or memory ran out
abbrev pub Refuses : Rows → SchemaFault → Type 0
Refuses rows fault = IsFirstIllegal rows fault ⊎ IsOutOfMemory fault
