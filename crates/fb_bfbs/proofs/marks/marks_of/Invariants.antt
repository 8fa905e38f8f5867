use Rattle.std.proofs.Common.{◌≡◌, ◌++◌, drop, map}
use Rattle.fb_bfbs.specs.{Marks.marked, Marks.marks_from, Tags.fields_of}
use Rattle.fb_bfbs.proofs.marks.marks_of.Given as goal

-- the marks so far, with those of the objects that are left
abbrev pub invariant-loop-object : goal.invariant-loop-object
invariant-loop-object l = record {
  number : l.number ≡ l.object-index;
  marks : map marked l.marks.items ++ marks_from l.object-index (map fields_of (drop l.object-index l.objects)) ≡ marks_from 0 (map fields_of l.objects);
}
