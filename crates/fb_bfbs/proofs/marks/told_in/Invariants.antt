use Rattle.std.proofs.Common.{◌≡◌, drop, map}
use Rattle.fb_bfbs.specs.{Marks.beside, Marks.told_in, Tags.tagged_of}
use Rattle.fb_bfbs.proofs.marks.told_in.Given as goal

-- what is told so far, with what the fields that are left tell
abbrev pub invariant-loop-field : goal.invariant-loop-field
invariant-loop-field l = beside l.told (told_in (map tagged_of (drop l.field-index l.fields))) ≡ told_in (map tagged_of l.fields)
