use Rattle.fb_schema.specs.Rows.{member_of_row}
use Rattle.fb_bfbs.specs.Describes.{IsMemberRow, IsEnumRow}
use Rattle.fb_bfbs.proofs.Composed.{enum_within, mapped_rows, row_here}
use Rattle.fb_bfbs.proofs.copied.EnumRowFromTable.from_table.Goals as goal

pub returns-clause-row : goal.returns-clause-row
returns-clause-row c = row_here IsEnumRow enum_within c.args.place.now _ (record {
  name = c.text_in.ensures;
  members = mapped_rows IsMemberRow _ member_of_row _ c.in_ok-members.ensures.rows;
  is_union = c.bool_in.ensures;
})
