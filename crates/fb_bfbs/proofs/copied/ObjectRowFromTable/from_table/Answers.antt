use Rattle.std.proofs.Common.{[], ◌∷◌, refl, rules, w32}
use Rattle.fb_schema.specs.Rows.{field_of}
use Rattle.fb_access.specs.{declared.step.Step.TheVariants.Field as ToField, Denotes.signed}
use Rattle.fb_bfbs.specs.{Seen.seen, Describes.IsFieldRow, Describes.IsObjectRow}
use Rattle.fb_bfbs.proofs.{FixedFields.computing, Narrow.kept, Composed.object_within, Composed.mapped_rows, Composed.row_here}
use Rattle.fb_bfbs.proofs.copied.ObjectRowFromTable.from_table.Goals as goal

pub int_in-requires : goal.int_in-requires
unfolding computing
int_in-requires c = record { object = 5; at = c.requires; sure = refl; default_is = refl }

pub int_in-requires-2 : goal.int_in-requires-2
unfolding computing
int_in-requires-2 c = record { object = 5; at = c.requires; sure = refl; default_is = refl }

pub returns-clause-row : goal.returns-clause-row
returns-clause-row c = row_here IsObjectRow object_within c.args.place.now _ (record {
  name = c.text_in.ensures;
  fields = mapped_rows IsFieldRow _ field_of _ c.in_ok-fields.ensures.rows;
  is_struct = c.bool_in.ensures;
  minalign = kept w32 (λ z. seen c.args.place.now (ToField 3 ∷ []) (signed z)) c.int_in.result (search rules) c.int_in.ensures;
  bytesize = kept w32 (λ z. seen c.args.place.now (ToField 4 ∷ []) (signed z)) c.int_in-2.result (search rules) c.int_in-2.ensures;
})
