use Rattle.std.proofs.Common.{map}
use Rattle.fb_bfbs.specs.Marks.{marked}
use Rattle.fbcheck_texts.specs.declared.fault.AskFault.TheVariants.{NoSuchTable}
use Rattle.fbcheck_serve.specs.ByteFields.{LacksPlan}
use Rattle.fbcheck_serve.proofs.ByteLemmas.{any_lost, either}
use Rattle.fbcheck_serve.proofs.strict.planned.Goals as goal

pub returns-in-Err-NoSuchTable-clause-no : goal.returns-in-Err-NoSuchTable-clause-no
returns-in-Err-NoSuchTable-clause-no c =
    let (i, m, at, lost, object, its) = rw c.in-Err-NoSuchTable.field-0-is at c.in-Err-NoSuchTable.ensures.lost in
    either (LacksPlan c.args.schema.now (map marked c.args.marks.now)) NoSuchTable c.lost.result.fault c.lost.ensures (any_lost c.args.schema.now (map marked c.args.marks.now) i m at lost) tt
