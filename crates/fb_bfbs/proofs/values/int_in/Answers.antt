use Rattle.std.proofs.Common.{[], ◌∷◌, rules, w32, w64}
use Rattle.std.specs.Int.RustNames.{FitsSigned}
use Rattle.fb_schema.specs.declared.kinds.Scalar.TheVariants as scalar
use Rattle.fb_schema.specs.declared.kinds.Kind.TheVariants.{Scalar}
use Rattle.fb_access.specs.{Denotes.signed, declared.step.Step.TheVariants.Field as ToField}
use Rattle.fb_access.proofs.Shapes.{answers_signed}
use Rattle.fb_bfbs.specs.Seen.{seen, IsKnown}
use Rattle.fb_bfbs.proofs.{KnownFields.int_known, KnownFields.int_field, Sure.field_here, Narrow.fits_long, Narrow.kept, Narrow.narrowed, Composed.seen_in}
use Rattle.fb_bfbs.proofs.values.int_in.Goals as goal

pub go_to-field-requires : goal.go_to-field-requires
go_to-field-requires c = kept w64 (IsKnown c.args.place.now c.args.number (Scalar scalar.Int)) c.args.default (search rules) (int_known _ _ _ c.requires)

pub unreachable-requires : goal.unreachable-requires
unreachable-requires c = answers_signed _ _ _ _ c.answer.ensures.shown scalar.Int tt (field_here _ _ _ _ (int_field _ _ _ c.requires) c.go_to-field.ensures.here) c.in_default.not-Int

pub overflow_cast-result : goal.overflow_cast-result
overflow_cast-result c =
    let fits = c.in-Int.ensures.narrow scalar.Int (field_here _ _ _ _ (int_field _ _ _ c.requires) c.go_to-field.ensures.here) in
    kept w64 (FitsSigned w32) c.in-Int.value (fits_long scalar.Int c.in-Int.value fits) fits

pub returns : goal.returns
returns c =
    let fits = c.in-Int.ensures.narrow scalar.Int (field_here _ _ _ _ (int_field _ _ _ c.requires) c.go_to-field.ensures.here) in
    let value = seen_in _ _ _ _ c.go_to-field.ensures.same c.go_to-field.ensures.leads c.in-Int.ensures.shown in
    narrowed w32 (λ z. seen c.args.place.now (ToField c.args.number ∷ []) (signed z)) c.in-Int.value fits (fits_long scalar.Int c.in-Int.value fits) value
