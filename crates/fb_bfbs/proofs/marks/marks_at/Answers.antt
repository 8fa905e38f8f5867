use Rattle.fb_bfbs.specs.{Marks.AreTagged, Tags.fields_of}
use Rattle.fb_bfbs.proofs.Composed.{mapped_rows}
use Rattle.fb_bfbs.proofs.marks.marks_at.Goals as goal

pub returns : goal.returns
returns c = record {
  objects = _;
  tagged = mapped_rows AreTagged _ fields_of _ c.in_ok-objects.ensures.rows;
  marks = rw c.as_slice-objects.ensures.value at c.in_ok-marks_of.ensures;
  told = rw c.as_slice-objects.ensures.value at c.told_of.ensures;
}
