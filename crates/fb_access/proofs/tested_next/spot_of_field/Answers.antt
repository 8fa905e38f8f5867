use Rattle.std.proofs.Common.{sym, arith}
use Rattle.fb_access.proofs.{Held.at_table, Staying.part_begins, Tested.changed, Tested.field_fails, Tested.struct_tested}
use Rattle.fb_access.proofs.tested_next.spot_of_field.Goals as goal

pub returns-in_err-spot_of-in-Some : goal.returns-in_err-spot_of-in-Some
returns-in_err-spot_of-in-Some c =
    changed _ _ _ _ c.from_residual.ensures.1 (λ h. field_fails _ _ _ _ _ _ c.lawful.ensures.served (sym (rw c.in-Some.is at c.field_numbered.ensures)) c.in_err-spot_of-in-Some.ensures (at_table _ _ _ _ _ c.in-AtTable.is h))

pub overflow_add-place : goal.overflow_add-place
overflow_add-place c =
    let h = struct_tested _ _ _ _ _ c.in-AtStruct.is c.requires.tested in
    let part = c.in-Some-part_at.part in
    let begins = part_begins c.args.window.now c.args.schema.now _ part part.kind (c.lawful.ensures.served.parts _ _ part (sym (rw c.in-Some-part_at.is at c.part_at.ensures))) in
    omega (arith, h.within, begins, c.requires.short, c.from-in-Some-part_at.ensures)
