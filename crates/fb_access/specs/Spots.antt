-- Where values stand: of a field that is present or absent, of an element of a vector, of a member of a union.
use Rattle.std.specs.Prelude.{ℕ, ℤ, ◌+◌, ◌*◌, ◌==◌, nat_lt, Bool, true, false, if◌then◌else◌, List, Option, Some, None, option_map}
use Rattle.fb_bytes.specs.Word.{word}
use Rattle.fb_schema.specs.declared.{kinds.Kind.Kind, views.PartView.PartView, kinds.Kind.TheVariants.Scalar as AScalar, kinds.Kind.TheVariants.Text, kinds.Kind.TheVariants.Struct}
use Rattle.fb_schema.specs.declared.kinds.Kind.TheVariants.{Table, Union, Scalars, Texts, Structs, Tables, Unions}
use Rattle.fb_schema.specs.{Rows.Rows, Kinds.scalar_size, Kinds.struct_size, Live.Live, Members.member_of, Parts.part_at}
use Rattle.fb_rules.specs.{Places.target, Places.field_place, Fields.type_place, Fields.union_type, Fields.types_begin}
use Rattle.fb_access.specs.declared.spot.Spot.{Spot, TheVariants.AtTable, TheVariants.AtInline, TheVariants.AtStruct, TheVariants.AtText, TheVariants.AtScalars}
use Rattle.fb_access.specs.declared.spot.Spot.TheVariants.{AtStructs, AtScalarArray, AtStructArray, AtTexts, AtTables, AtUnions, AtUnion, AtDefault, AtAbsent, AtNoElement}
use Rattle.fb_access.specs.{declared.spot.Spot.TheVariants.AtOtherMember, Fitting.numbered}

-- the kind of what is here, none where nothing is
abbrev pub kind_at : Spot → Option Kind
kind_at (AtTable k t) = Some (Table k)
kind_at (AtInline s p) = Some (AScalar s)
kind_at (AtStruct k p) = Some (Struct k)
kind_at (AtText c) = Some Text
kind_at (AtScalars s c) = Some (Scalars s)
kind_at (AtStructs k c) = Some (Structs k)
kind_at (AtScalarArray s n p) = Some (Scalars s)
kind_at (AtStructArray k n p) = Some (Structs k)
kind_at (AtTexts c) = Some Texts
kind_at (AtTables k c) = Some (Tables k)
kind_at (AtUnions e q c) = Some (Unions e)
kind_at (AtUnion e y p) = Some (Union e)
kind_at (AtDefault s d) = Some (AScalar s)
kind_at _ = None

-- a field of the table at t with the slot o that is present at p: a uoffset there leads to all but scalars,
-- structs and unions
unfoldable pub present_spot : List ℕ → ℕ → ℕ → ℕ → Kind → Spot
present_spot b t o p (AScalar s) = AtInline s p
present_spot b t o p (Struct k) = AtStruct k p
present_spot b t o p Text = AtText (target b p)
present_spot b t o p (Table k) = AtTable k (target b p)
present_spot b t o p (Union e) = AtUnion e (union_type b (type_place b t o)) p
present_spot b t o p (Scalars s) = AtScalars s (target b p)
present_spot b t o p Texts = AtTexts (target b p)
present_spot b t o p (Structs k) = AtStructs k (target b p)
present_spot b t o p (Tables k) = AtTables k (target b p)
present_spot b t o p (Unions e) = AtUnions e (types_begin b (type_place b t o)) (target b p)

-- a field that is absent: a scalar that isn't optional has its default
unfoldable pub absent_spot : Bool → ℤ → Kind → Spot
absent_spot true d kind = AtAbsent
absent_spot false d (AScalar s) = AtDefault s d
absent_spot false d _ = AtAbsent

-- the field f of the table at t, if it stands at this place
abbrev pub spot_at : List ℕ → ℕ → Live → Option ℕ → Spot
spot_at b t f None = absent_spot f.optional f.default f.kind
spot_at b t f (Some p) = present_spot b t f.slot p f.kind

-- the field f of the table at t
abbrev pub field_spot : List ℕ → ℕ → Live → Spot
field_spot b t f = spot_at b t f (field_place b t f.slot)

-- the field of a struct that stands at p, of n values if it is an array
unfoldable pub spot_of_part : ℕ → ℕ → Kind → Spot
spot_of_part p n (AScalar s) = AtInline s p
spot_of_part p n (Struct k) = AtStruct k p
spot_of_part p n (Scalars s) = AtScalarArray s n p
spot_of_part p n (Structs k) = AtStructArray k n p
spot_of_part p n _ = AtAbsent

-- the field of the struct at p
abbrev pub part_spot : ℕ → PartView → Spot
part_spot p part = spot_of_part (p + part.place) part.count part.kind

-- to the field with this number of a table, or at this place of a struct
abbrev pub spot_of_field : List ℕ → Rows → Spot → ℕ → Option Spot
spot_of_field b S (AtTable k t) n = option_map (field_spot b t) (numbered S k n)
spot_of_field b S (AtStruct k p) n = option_map (part_spot p) (part_at S k n)
spot_of_field b S _ n = None

-- a spot, if a vector or array of n values has an element j
abbrev pub if_element : ℕ → ℕ → Spot → Spot
if_element n j spot = if nat_lt j n then spot else AtNoElement

-- to element j: those of a vector stand behind its count, in place or as uoffsets, those of an array from its place
-- on; a union has the j-th type
unfoldable pub spot_of_element : List ℕ → Rows → Spot → ℕ → Option Spot
spot_of_element b S (AtScalars s c) j = Some (if_element (word b c 4) j (AtInline s (c + 4 + scalar_size s * j)))
spot_of_element b S (AtStructs k c) j = Some (if_element (word b c 4) j (AtStruct k (c + 4 + struct_size S k * j)))
spot_of_element b S (AtScalarArray s n p) j = Some (if_element n j (AtInline s (p + scalar_size s * j)))
spot_of_element b S (AtStructArray k n p) j = Some (if_element n j (AtStruct k (p + struct_size S k * j)))
spot_of_element b S (AtTexts c) j = Some (if_element (word b c 4) j (AtText (target b (c + 4 + 4 * j))))
spot_of_element b S (AtTables k c) j = Some (if_element (word b c 4) j (AtTable k (target b (c + 4 + 4 * j))))
spot_of_element b S (AtUnions e q c) j = Some (if_element (word b c 4) j (AtUnion e (word b (q + j) 1) (c + 4 + 4 * j)))
spot_of_element b S _ j = None

-- what a uoffset at p of a union leads to; a member is of one of these three kinds
unfoldable pub member_spot : List ℕ → ℕ → Kind → Spot
member_spot b p (Table k) = AtTable k (target b p)
member_spot b p (Struct k) = AtStruct k (target b p)
member_spot b p Text = AtText (target b p)
member_spot b p _ = AtOtherMember

-- to the member with the value m: there if the type is m
abbrev pub spot_of_member : List ℕ → Rows → Spot → ℕ → Option Spot
spot_of_member b S (AtUnion e y p) m = option_map (λ kind. if y == m then member_spot b p kind else AtOtherMember) (member_of S e m)
spot_of_member b S _ m = None
