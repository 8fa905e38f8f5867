-- The kind of a vector, by that of its elements.
use Rattle.fb_schema.specs.declared.kinds.Kind.{Kind}
use Rattle.fb_schema.specs.declared.kinds.Kind.TheVariants.{Scalar, Text, Struct, Table, Union, Scalars, Texts, Structs, Tables, Unions}

-- the kind of a vector of values of this kind, which is none of a vector itself
abbrev pub vector_of : Kind → Kind
vector_of (Scalar s) = Scalars s
vector_of Text = Texts
vector_of (Struct k) = Structs k
vector_of (Table k) = Tables k
vector_of (Union e) = Unions e
vector_of kind = kind
