-- Base types, the kinds that they give, and how large their values are.
use Rattle.std.specs.Prelude.{ℕ, ℤ, pos, negsuc, if◌then◌else◌, List, [], ◌∷◌, slice_get, unsigned_abs, Option, Some, None, option_map}
use Rattle.std.specs.{Option.option_flatten, Ordering.int_eq}
use Rattle.fb_schema.specs.declared.{rows.TypeRow.TypeRow, kinds.Scalar.Scalar, kinds.Element.Element, kinds.Shape.Shape}
use Rattle.fb_schema.specs.declared.{kinds.Shape.TheVariants.One, kinds.Shape.TheVariants.Vector, kinds.Shape.TheVariants.Array, kinds.Kind.Kind}
use Rattle.fb_schema.specs.declared.kinds.Scalar.TheVariants.{UType, Bool as AsBool, Byte, UByte, Short, UShort, Int, UInt, Long, ULong, Float, Double}
use Rattle.fb_schema.specs.declared.kinds.Element.TheVariants.{Scalar as OfScalar, Text as OfText, Object as OfObject, Union as OfUnion}
use Rattle.fb_schema.specs.declared.kinds.Kind.TheVariants.{Scalar as AScalar, Text, Struct, Table, Union, Scalars, Texts, Structs, Tables, Unions}
use Rattle.fb_schema.specs.Rows.{Object, Enum, Rows, entry_at}

-- the bytes of a scalar, which are its alignment too
abbrev pub scalar_size : Scalar → ℕ
scalar_size UType = 1
scalar_size AsBool = 1
scalar_size Byte = 1
scalar_size UByte = 1
scalar_size Short = 2
scalar_size UShort = 2
scalar_size Int = 4
scalar_size UInt = 4
scalar_size Long = 8
scalar_size ULong = 8
scalar_size Float = 4
scalar_size Double = 8

-- what the base types from number 0 on hold one of
unfoldable pub base_types : List (Option Element)
base_types =
    None
    ∷ Some (OfScalar UType)
    ∷ Some (OfScalar AsBool)
    ∷ Some (OfScalar Byte)
    ∷ Some (OfScalar UByte)
    ∷ Some (OfScalar Short)
    ∷ Some (OfScalar UShort)
    ∷ Some (OfScalar Int)
    ∷ Some (OfScalar UInt)
    ∷ Some (OfScalar Long)
    ∷ Some (OfScalar ULong)
    ∷ Some (OfScalar Float)
    ∷ Some (OfScalar Double)
    ∷ Some OfText
    ∷ None
    ∷ Some OfObject
    ∷ Some OfUnion
    ∷ []

-- what a base type holds one of; none for a vector, an array and every other number
abbrev pub element_of : ℤ → Option Element
element_of base = option_flatten (entry_at base_types base)

-- what a type holds; the element counts in a vector (14) and an array (17) alone
unfoldable pub shape_of : TypeRow → Option Shape
shape_of ty =
    if int_eq ty.base (pos 14) then option_map Vector (element_of ty.element)
    else (if int_eq ty.base (pos 17) then option_map Array (element_of ty.element) else option_map One (element_of ty.base))

-- what a shape has one or several of
abbrev pub of_shape : Shape → Element
of_shape (One e) = e
of_shape (Vector e) = e
of_shape (Array e) = e

-- the kind of one value of an element whose type has this index, where its object or union is there
abbrev pub object_kind : ℤ → (ℕ → Kind) → (ℕ → Kind) → Option Object → Option Kind
object_kind index struct table None = None
object_kind (negsuc k) struct table (Some o) = None
object_kind (pos k) struct table (Some o) = Some (if o.is_struct then struct k else table k)

abbrev pub union_kind : ℤ → (ℕ → Kind) → Option Enum → Option Kind
union_kind index union None = None
union_kind (negsuc k) union (Some e) = None
union_kind (pos k) union (Some e) = Some (union k)

-- the kind that a shape gives, where its type has this index
abbrev pub shape_kind : Rows → ℤ → Option Shape → Option Kind
shape_kind rows index None = None
shape_kind rows index (Some (One (OfScalar s))) = Some (AScalar s)
shape_kind rows index (Some (One OfText)) = Some Text
shape_kind rows index (Some (One OfObject)) = object_kind index Struct Table (entry_at rows.objects index)
shape_kind rows index (Some (One OfUnion)) = union_kind index Union (entry_at rows.enums index)
shape_kind rows index (Some (Vector (OfScalar s))) = Some (Scalars s)
shape_kind rows index (Some (Vector OfText)) = Some Texts
shape_kind rows index (Some (Vector OfObject)) = object_kind index Structs Tables (entry_at rows.objects index)
shape_kind rows index (Some (Vector OfUnion)) = union_kind index Unions (entry_at rows.enums index)
shape_kind rows index (Some (Array e)) = None

-- the kind of a type; none where tables can't have it, or its object or enum isn't there
unfoldable pub kind_of : Rows → TypeRow → Option Kind
kind_of rows ty = shape_kind rows ty.index (shape_of ty)

-- the bytes of a struct, and its alignment; 0 where there is no such object
abbrev pub size_in : Option Object → ℕ
size_in None = 0
size_in (Some o) = unsigned_abs o.bytesize

abbrev pub align_in : Option Object → ℕ
align_in None = 0
align_in (Some o) = unsigned_abs o.minalign

abbrev pub struct_size : Rows → ℕ → ℕ
struct_size rows n = size_in (slice_get rows.objects n)

abbrev pub struct_align : Rows → ℕ → ℕ
struct_align rows n = align_in (slice_get rows.objects n)

-- a size of a scalar or struct, or of one element of a vector of these, where a struct has this one; of any other kind
-- that of an offset
abbrev pub kind_measure : (ℕ → ℕ) → Kind → ℕ
kind_measure measure (AScalar s) = scalar_size s
kind_measure measure (Struct k) = measure k
kind_measure measure (Scalars s) = scalar_size s
kind_measure measure (Structs k) = measure k
kind_measure measure _ = 4

-- the bytes
abbrev pub kind_size : Rows → Kind → ℕ
kind_size rows kind = kind_measure (struct_size rows) kind

-- the alignment
abbrev pub kind_align : Rows → Kind → ℕ
kind_align rows kind = kind_measure (struct_align rows) kind
