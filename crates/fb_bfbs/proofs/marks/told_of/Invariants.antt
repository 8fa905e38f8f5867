use Rattle.std.proofs.Common.{◌≡◌, drop, map}
use Rattle.fb_bfbs.specs.{Marks.beside, Marks.together, Marks.told_in, Tags.fields_of}
use Rattle.fb_bfbs.proofs.marks.told_of.Given as goal

-- what is told so far, with what the objects that are left tell
abbrev pub invariant-loop-object : goal.invariant-loop-object
invariant-loop-object l = beside l.told (together (map told_in (map fields_of (drop l.object-index l.objects)))) ≡ together (map told_in (map fields_of l.objects))
