-- The fields of structs, as a reader of a struct's bytes sees them.
use Rattle.std.specs.Prelude.{ℕ, ◌+◌, ◌*◌, ◌<◌, ◌≤◌, ℤ, if◌then◌else◌, List, [], length, position, slice_get, Option, Some, None, option_map, option_and_then, bytes_eq}
use Rattle.fb_schema.specs.declared.kinds.{Shape.Shape, Shape.TheVariants.One, Shape.TheVariants.Vector, Shape.TheVariants.Array, Kind.Kind}
use Rattle.fb_schema.specs.declared.{views.PartView.PartView, kinds.Kind.TheVariants.Scalar, kinds.Kind.TheVariants.Struct, kinds.Kind.TheVariants.Scalars}
use Rattle.fb_schema.specs.{declared.kinds.Kind.TheVariants.Structs, Rows.Field, Rows.Object, Rows.Rows, Kinds.scalar_size, Kinds.struct_size, Kinds.shape_of, Kinds.shape_kind}

-- the kind of what a struct's field of this shape holds: an array has that of a vector of its elements
abbrev pub part_kind : Rows → ℤ → Option Shape → Option Kind
part_kind rows index (Some (One e)) = shape_kind rows index (Some (One e))
part_kind rows index (Some (Array e)) = shape_kind rows index (Some (Vector e))
part_kind rows index _ = None

-- how many values an array of this length has, and all else
abbrev pub part_count : ℕ → Option Shape → ℕ
part_count length (Some (Array e)) = length
part_count length _ = 1

-- a field of a struct: where it stands there, what it holds, and of how many values
abbrev pub part_of : Rows → Field → Option PartView
part_of rows f = option_map (λ kind. record { place = f.slot; kind = kind; count = part_count f.ty.fixed_length (shape_of f.ty) }) (part_kind rows f.ty.index (shape_of f.ty))

abbrev pub parts_in : Option Object → List Field
parts_in None = []
parts_in (Some o) = if o.is_struct then o.fields else []

-- the fields of struct k, in the order of the rows; none where it is no struct
abbrev pub parts_of : Rows → ℕ → List Field
parts_of rows k = parts_in (slice_get rows.objects k)

-- the i-th field of struct k
unfoldable pub part_at : Rows → ℕ → ℕ → Option PartView
part_at rows k i = option_and_then (part_of rows) (slice_get (parts_of rows k) i)

-- the place of the field of struct k with this name among its fields
unfoldable pub part_named : Rows → ℕ → List ℕ → Option ℕ
part_named rows k name = position (λ f. bytes_eq f.name name) (parts_of rows k)

-- a field of this kind of a struct of so many bytes: it holds scalars, or structs that are there, and ends in it
abbrev pub PartFits : Rows → ℕ → PartView → Kind → Type 0
PartFits rows bytes part (Scalar s) = part.place + scalar_size s ≤ bytes
PartFits rows bytes part (Struct k) = (k < length rows.objects) × (part.place + struct_size rows k ≤ bytes)
PartFits rows bytes part (Scalars s) = part.place + part.count * scalar_size s ≤ bytes
PartFits rows bytes part (Structs k) = (k < length rows.objects) × (part.place + part.count * struct_size rows k ≤ bytes)
PartFits rows bytes part _ = ⊥
