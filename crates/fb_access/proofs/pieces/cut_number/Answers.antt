use Rattle.std.proofs.Common.{◌++◌, sym, ◌∙◌, ap, append_assoc, arith}
use Rattle.fb_access.proofs.{Words.one_digit_more, Words.dead_at_end, Words.dead_at_bracket, Stuck.no_index}
use Rattle.fb_access.proofs.pieces.cut_number.Goals as goal

pub returns-in-None-clause-stuck : goal.returns-in-None-clause-stuck
returns-in-None-clause-stuck c =
    let (ds, so, whole) = c.loop-byte.invariant in
    no_index _ ds _ _ so whole (dead_at_bracket _ _ _ _ c.in-Some.ensures.cases.0 (omega (arith, c.if-byte-eq93.true)) c.in-None.is)

pub returns-in_default-next_digit-clause-stuck : goal.returns-in_default-next_digit-clause-stuck
returns-in_default-next_digit-clause-stuck c =
    let (ds, so, whole) = c.loop-byte.invariant in
    no_index _ ds _ _ so whole (rw c.in-Some.ensures.cases.0 (sym c.next_digit.ensures ∙ c.in_default-next_digit.is, λ e. absurd (omega (arith, e, c.if-byte-eq93.false))))

pub loop-byte-preserved : goal.loop-byte-preserved
loop-byte-preserved c =
    let (ds, so, whole) = c.loop-byte.invariant in
    (_, one_digit_more ds _ _ _ so (sym c.next_digit.ensures ∙ c.in-Some-next_digit.is), whole ∙ ap (λ t. ds ++ t) c.in-Some.ensures.cases.0 ∙ sym (append_assoc ds _ _))

pub returns-clause-stuck : goal.returns-clause-stuck
returns-clause-stuck c =
    let (ds, so, whole) = c.loop-byte.invariant in
    no_index _ ds _ _ so whole (dead_at_end _ _ c.in_default.ensures.cases)
