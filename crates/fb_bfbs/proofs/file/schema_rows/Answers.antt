use Rattle.std.proofs.Common.{rules}
use Rattle.fb_schema.specs.Rows.{object_of, enum_of}
use Rattle.fb_bfbs.specs.Describes.{IsObjectRow, IsEnumRow}
use Rattle.fb_bfbs.proofs.Composed.{mapped_rows}
use Rattle.fb_bfbs.proofs.file.schema_rows.Goals as goal

pub returns : goal.returns
returns c = record {
  rows = record {
    objects = mapped_rows IsObjectRow _ object_of _ c.in_ok-objects.ensures.rows;
    enums = mapped_rows IsEnumRow _ enum_of _ c.in_ok-enums.ensures.rows;
  };
  root = c.root_name.ensures;
  ident = c.text_or_none.ensures;
  few = search rules;
}
