use Rattle.fb_bfbs.specs.Marks.{IsAttribute}
use Rattle.fb_bfbs.proofs.Composed.{attribute_within, row_here}
use Rattle.fb_bfbs.proofs.attributes.AttributeRowFromTable.from_table.Goals as goal

pub returns-clause-row : goal.returns-clause-row
returns-clause-row c = row_here IsAttribute attribute_within c.args.place.now _ (record { key = c.text_or_empty.ensures; value = c.text_or_empty-2.ensures })
