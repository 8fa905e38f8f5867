use Rattle.std.proofs.Common.{refl, sym}
use Rattle.fb_bytes.specs.Word.{word}
use Rattle.fb_access.specs.Denotes.{float, default_double}
use Rattle.fb_access.proofs.Shapes.{answers_double}
use Rattle.fb_bfbs.proofs.{KnownFields.field_known, Sure.field_here, Composed.seen_in}
use Rattle.fb_bfbs.proofs.values.double_in.Goals as goal

pub go_to-field-requires : goal.go_to-field-requires
go_to-field-requires c = field_known _ _ _ tt c.requires

pub unreachable-requires : goal.unreachable-requires
unreachable-requires c = answers_double _ _ _ _ c.answer.ensures.shown (field_here _ _ _ _ c.requires c.go_to-field.ensures.here) c.in_default.not-Float c.in_default.not-DefaultDouble

pub returns-in-Float : goal.returns-in-Float
unfolding word
returns-in-Float c = (float c.in-Float.bytes.now, seen_in _ _ _ _ c.go_to-field.ensures.same c.go_to-field.ensures.leads c.in-Float.ensures.shown, sym c.read_u64.ensures)

pub returns-in-DefaultDouble : goal.returns-in-DefaultDouble
returns-in-DefaultDouble c = (default_double c.in-DefaultDouble.bits, seen_in _ _ _ _ c.go_to-field.ensures.same c.go_to-field.ensures.leads c.in-DefaultDouble.ensures.shown, refl)
