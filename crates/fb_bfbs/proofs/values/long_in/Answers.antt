use Rattle.std.proofs.Common.{[], ◌∷◌, w64}
use Rattle.fb_schema.specs.declared.kinds.Scalar.TheVariants as scalar
use Rattle.fb_access.specs.{Denotes.signed, declared.step.Step.TheVariants.Field as ToField}
use Rattle.fb_access.proofs.Shapes.{answers_signed}
use Rattle.fb_bfbs.specs.Seen.{seen}
use Rattle.fb_bfbs.proofs.{KnownFields.field_known, Sure.field_here, Narrow.kept, Composed.seen_in}
use Rattle.fb_bfbs.proofs.values.long_in.Goals as goal

pub go_to-field-requires : goal.go_to-field-requires
go_to-field-requires c = field_known _ _ _ tt c.requires

pub unreachable-requires : goal.unreachable-requires
unreachable-requires c = answers_signed _ _ _ _ c.answer.ensures.shown scalar.Long tt (field_here _ _ _ _ c.requires c.go_to-field.ensures.here) c.in_default.not-Int

pub returns : goal.returns
returns c =
    let fits = c.in-Int.ensures.narrow scalar.Long (field_here _ _ _ _ c.requires c.go_to-field.ensures.here) in
    kept w64 (λ z. seen c.args.place.now (ToField c.args.number ∷ []) (signed z)) c.in-Int.value fits (seen_in _ _ _ _ c.go_to-field.ensures.same c.go_to-field.ensures.leads c.in-Int.ensures.shown)
