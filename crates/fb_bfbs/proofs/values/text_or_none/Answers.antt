use Rattle.std.proofs.Common.{sym}
use Rattle.fb_schema.specs.declared.kinds.Kind.TheVariants.{Text}
use Rattle.fb_access.proofs.Shapes.{answers_text, shows_nothing}
use Rattle.fb_bfbs.proofs.{KnownFields.may_be_known, Sure.maybe_here, Composed.seen_in}
use Rattle.fb_bfbs.proofs.values.text_or_none.Goals as goal

pub go_to-field-requires : goal.go_to-field-requires
go_to-field-requires c = may_be_known _ _ _ tt c.requires

pub returns-in_default : goal.returns-in_default
returns-in_default c =
    let nothing_here = shows_nothing _ _ _ Text (maybe_here _ _ _ _ c.requires c.go_to-field.ensures.leads) (λ here. answers_text _ _ _ _ c.answer.ensures.shown here c.in_default.not-Text) in
    seen_in _ _ _ _ c.go_to-field.ensures.same c.go_to-field.ensures.leads (sym nothing_here)
