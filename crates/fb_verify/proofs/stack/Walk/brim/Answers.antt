use Rattle.std.proofs.Common.{arith}
use Rattle.fb_rules.proofs.Budgets.{fewer_reads}
use Rattle.fb_verify.proofs.stack.Walk.brim.Goals as goal

pub returns : goal.returns
returns c = λ n h.
    (fewer_reads _ _ _ (omega (arith, c.saturating_sub.ensures, c.from.ensures, c.widest.ensures, h)) c.short_of.ensures.allowed, omega (arith, c.saturating_sub.ensures, c.from.ensures, c.widest.ensures, h, c.short_of.ensures.short))
