use Rattle.std.proofs.Common.{[], Some, None, subst}
use Rattle.fb_access.specs.Cutting.{IsCut, IsNext}
use Rattle.fb_access.proofs.{Stuck.read_on, Following.ended}
use Rattle.fb_access.proofs.pieces.wrong_from.Goals as goal

pub loop-next-preserved : goal.loop-next-preserved
loop-next-preserved c =
    let (left, is, on) = c.loop-next.invariant in
    let cut : IsCut left _ c.in-Part.rest.now = subst (IsNext left) c.in-Part.is is in
    (_, c.next_part-next-in-Part.ensures, λ bad h. on bad (read_on _ left _ bad cut.begins h))

pub returns-in-Wrong : goal.returns-in-Wrong
returns-in-Wrong c =
    let (left, is, on) = c.loop-next.invariant in
    on (Some c.in-Wrong.bad) (subst (IsNext left) c.in-Wrong.is is)

pub returns-in_default-next : goal.returns-in_default-next
returns-in_default-next c =
    let (left, is, on) = c.loop-next.invariant in
    on None ([], record { are_parts = tt; spelled = ended left _ is c.in_default.not-Part c.in_default-next.not-Wrong })
