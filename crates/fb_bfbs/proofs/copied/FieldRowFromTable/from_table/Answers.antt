use Rattle.std.proofs.Common.{refl, rules, subst, w8, w64}
use Rattle.std.proofs.lemmas.Int.{to_z-of_z}
use Rattle.fb_schema.specs.declared.kinds.Kind.TheVariants.{Table}
use Rattle.fb_bfbs.specs.{Describes.IsDefault, Describes.IsFieldRow, Describes.is_float, Seen.seen}
use Rattle.fb_access.specs.declared.step.Step.TheVariants.{Field as ToField}
use Rattle.fb_bfbs.proofs.{Narrow.kept, KnownFields.field_known, Sure.at_field, FixedFields.computing, FixedFields.always}
use Rattle.fb_bfbs.proofs.Composed.{seen_after, type_within, field_within, row_here}
use Rattle.fb_bfbs.proofs.copied.FieldRowFromTable.from_table.Goals as goal

pub go_to-type_place-requires : goal.go_to-type_place-requires
unfolding computing
go_to-type_place-requires c = field_known _ _ (Table 0) tt (always c.requires refl)

pub type_row-ty-requires : goal.type_row-ty-requires
unfolding computing
type_row-ty-requires c = at_field _ _ _ (Table 0) (always c.requires refl) c.go_to-type_place.ensures.same c.go_to-type_place.ensures.here

pub returns-clause-row : goal.returns-clause-row
returns-clause-row c = row_here IsFieldRow field_within c.args.place.now _ (record {
  name = c.text_in.ensures;
  ty = type_within _ _ _ (seen_after _ _ (ToField 1) c.go_to-type_place.ensures.same c.go_to-type_place.ensures.leads) c.type_row-ty.ensures;
  slot = c.ushort_in.ensures;
  default = kept w64 (IsDefault (seen c.args.place.now) (is_float c.type_row-ty.result.base)) c.default_in.result (search rules)
      (subst (λ base. IsDefault (seen c.args.place.now) (is_float base) c.default_in.result) (to_z-of_z w8 c.type_row-ty.result.base (search rules)) c.default_in.ensures);
  deprecated = c.bool_in.ensures;
  required = c.bool_in-2.ensures;
  optional = c.bool_in-3.ensures;
  offset64 = c.bool_in-4.ensures;
})
