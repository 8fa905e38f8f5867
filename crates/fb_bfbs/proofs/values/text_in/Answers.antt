use Rattle.fb_access.proofs.Shapes.{answers_text}
use Rattle.fb_bfbs.proofs.{KnownFields.field_known, Sure.field_here}
use Rattle.fb_bfbs.proofs.values.text_in.Goals as goal

pub go_to-field-requires : goal.go_to-field-requires
go_to-field-requires c = field_known _ _ _ tt c.requires

pub unreachable-requires : goal.unreachable-requires
unreachable-requires c = answers_text _ _ _ _ c.answer.ensures.shown (field_here _ _ _ _ c.requires c.go_to-field.ensures.here) c.in_default.not-Text
