use Rattle.fbcheck_calls.proofs.MarkLemmas.{lost_has_bytes}
use Rattle.fbcheck_calls.proofs.basis.plan_of.Goals as goal

pub field_in-requires : goal.field_in-requires
field_in-requires c = lost_has_bytes c.args.schema.now c.in-Err-NoSuchTable.object c.in-Err-NoSuchTable.slot _ (rw c.in-Err-NoSuchTable.field-0-is at c.in-Err-NoSuchTable.ensures.lost)

pub returns-in-Err-NoSuchTable-clause-no : goal.returns-in-Err-NoSuchTable-clause-no
returns-in-Err-NoSuchTable-clause-no c =
    let (f, numbered, stands) = c.field_in.ensures in
    (c.in-Err-NoSuchTable.object, c.in-Err-NoSuchTable.slot, f, numbered, stands, rw c.in-Err-NoSuchTable.field-0-is at c.in-Err-NoSuchTable.ensures.lost)
