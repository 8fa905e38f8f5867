use Rattle.std.proofs.Common.{map}
use Rattle.fb_bfbs.specs.{ByteFields.is_unmarked, Marks.marked}
use Rattle.fb_bfbs.proofs.ByteLemmas.{field_within}
use Rattle.fb_schema.specs.Live.{live_of_view}
use Rattle.fbcheck_texts.specs.declared.fault.AskFault.TheVariants.{UnmarkedBytes}
use Rattle.fbcheck_serve.specs.ByteFields.{Misses}
use Rattle.fbcheck_serve.proofs.ByteLemmas.{either}
use Rattle.fbcheck_serve.proofs.byte_fields.test_marks.Goals as goal

pub returns-in-Ok-None-clause-ok : goal.returns-in-Ok-None-clause-ok
returns-in-Ok-None-clause-ok c = rw c.in-Ok-None.field-0-is at c.in-Ok-None.ensures

pub unasked-requires : goal.unasked-requires
unasked-requires c =
    let found = c.in-Ok-Some.found in
    let lacks = rw c.in-Ok-Some.field-0-is at c.in-Ok-Some.ensures in
    field_within c.args.schema.now found.table (is_unmarked (map marked c.args.marks.now.fields.items) found.table) (live_of_view found.field) lacks.field

pub returns-in-Ok-Some-clause-no : goal.returns-in-Ok-Some-clause-no
returns-in-Ok-Some-clause-no c =
    either (Misses c.args.schema.now (map marked c.args.marks.now.fields.items) c.args.marks.now.builtins) UnmarkedBytes c.unasked.result.fault c.unasked.ensures
    (_, _, rw c.in-Ok-Some.field-0-is at c.in-Ok-Some.ensures) tt
