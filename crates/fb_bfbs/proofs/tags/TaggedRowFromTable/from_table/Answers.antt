use Rattle.std.proofs.Common.{refl, map}
use Rattle.fb_bfbs.specs.{Marks.IsTagged, Tags.attribute_of}
use Rattle.fb_bfbs.proofs.Composed.{tagged_within, row_here}
use Rattle.fb_bfbs.proofs.tags.TaggedRowFromTable.from_table.Goals as goal

pub returns-clause-row : goal.returns-clause-row
returns-clause-row c = row_here IsTagged tagged_within c.args.place.now _ (record {
  field = record {
    slot = c.ushort_in.result;
    deprecated = c.bool_in-deprecated.result;
    required = c.bool_in.result;
    key = c.bool_in-2.result;
    attributes = map attribute_of c.in_ok-attributes.attributes.items;
  };
  read = record {
    slot = c.ushort_in.ensures;
    deprecated = c.bool_in-deprecated.ensures;
    required = c.bool_in.ensures;
    key = c.bool_in-2.ensures;
    attributes = c.in_ok-attributes.ensures;
  };
  slot = refl;
  held = rw c.as_slice-attributes.ensures.value at c.content_of.ensures;
  builtins = rw (c.beside-2.ensures, c.beside.ensures, c.told_by_flag-required.ensures, c.told_by_flag-old.ensures, c.told_by_flag-key.ensures, c.as_slice-attributes.ensures.value) refl;
})
