use Rattle.std.proofs.Common.{◌≡◌, ◌++◌, drop, map}
use Rattle.fb_bfbs.specs.{Marks.marked, Marks.marks_in, Tags.tagged_of}
use Rattle.fb_bfbs.proofs.marks.put_marks.Given as goal

-- the marks so far, with those of the fields that are left
abbrev pub invariant-loop-field : goal.invariant-loop-field
invariant-loop-field l = map marked l.marks.items ++ marks_in l.object (map tagged_of (drop l.field-index l.fields)) ≡ map marked l.fn.marks.items ++ marks_in l.object (map tagged_of l.fields)
