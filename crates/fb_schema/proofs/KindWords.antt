-- The words for kinds, elements and shapes.
pub use Rattle.fb_schema.specs.declared.kinds.Kind.{Kind}
pub use Rattle.fb_schema.specs.declared.kinds.Kind.TheVariants.{Scalar, Text, Struct, Table, Union, Scalars, Texts, Structs, Tables, Unions}
pub use Rattle.fb_schema.specs.declared.kinds.Element.{Element}
pub use Rattle.fb_schema.specs.declared.kinds.Element.TheVariants.{Scalar as OfScalar, Text as OfText, Object as OfObject, Union as OfUnion}
pub use Rattle.fb_schema.specs.declared.kinds.Shape.{Shape}
pub use Rattle.fb_schema.specs.declared.kinds.Shape.TheVariants.{One, Vector, Array}
