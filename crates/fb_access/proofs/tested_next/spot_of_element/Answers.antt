use Rattle.std.proofs.Common.{arith}
use Rattle.fb_access.proofs.Tested.{begins_before, scalars_tested, structs_tested}
use Rattle.fb_access.proofs.tested_next.spot_of_element.Goals as goal

pub overflow_add-place : goal.overflow_add-place
overflow_add-place c =
    let below = begins_before _ _ _ _ _ (rw c.from.ensures at c.if-j-from.false) (scalars_tested _ _ _ _ _ _ c.in-AtScalarArray.is c.requires.tested) in
    rw (c.from-in-AtScalarArray.ensures, c.size-in-AtScalarArray.ensures, c.from-in-AtScalarArray-2.ensures) (omega (arith, below, c.requires.short))

pub overflow_add-place-in-AtStructArray : goal.overflow_add-place-in-AtStructArray
overflow_add-place-in-AtStructArray c =
    let below = begins_before _ _ _ _ _ (rw c.from-in-AtStructArray.ensures at c.if-j-from-2.false) (structs_tested _ _ _ _ _ _ c.in-AtStructArray.is c.requires.tested) in
    rw (c.from-in-AtStructArray-2.ensures, c.size_of_struct-in-AtStructArray.ensures, c.from-in-AtStructArray-3.ensures) (omega (arith, below, c.requires.short))
