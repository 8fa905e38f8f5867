use Rattle.fb_bfbs.specs.{Marks.IsTagged, Marks.AreTagged, Tags.tagged_of}
use Rattle.fb_bfbs.proofs.Composed.{fields_within, mapped_rows, row_here}
use Rattle.fb_bfbs.proofs.tags.TaggedObjectFromTable.from_table.Goals as goal

pub returns-clause-row : goal.returns-clause-row
returns-clause-row c = row_here AreTagged fields_within c.args.place.now _ (mapped_rows IsTagged _ tagged_of _ c.in_ok-fields.ensures.rows)
