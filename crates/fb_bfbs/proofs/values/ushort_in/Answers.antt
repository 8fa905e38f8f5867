use Rattle.fb_schema.specs.declared.kinds.Scalar.TheVariants as scalar
use Rattle.fb_bfbs.proofs.{KnownFields.field_known, Sure.field_here}
use Rattle.fb_access.proofs.Shapes.{answers_unsigned}
use Rattle.fb_bfbs.proofs.values.ushort_in.Goals as goal

pub go_to-field-requires : goal.go_to-field-requires
go_to-field-requires c = field_known _ _ _ tt c.requires

pub unreachable-requires : goal.unreachable-requires
unreachable-requires c = answers_unsigned _ _ _ _ c.answer.ensures.shown scalar.UShort tt (field_here _ _ _ _ c.requires c.go_to-field.ensures.here) c.in_default.not-UInt

pub overflow_cast-result : goal.overflow_cast-result
overflow_cast-result c = record { fits = c.in-UInt.ensures.narrow scalar.UShort (field_here _ _ _ _ c.requires c.go_to-field.ensures.here) }
