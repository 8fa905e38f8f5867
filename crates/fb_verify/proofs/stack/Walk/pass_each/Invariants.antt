use Rattle.std.proofs.Common.{◌-◌, length}
use Rattle.fb_verify.specs.PassesOn.{HasPassed}
use Rattle.fb_verify.proofs.stack.Walk.pass_each.Given as goal

abbrev pub invariant-loop-field : goal.invariant-loop-field
invariant-loop-field g l = HasPassed l.self l.fn.loan l.loan g.under l.fn.top l.top

abbrev pub decreases-loop-field : goal.decreases-loop-field
decreases-loop-field g l = length l.fields - l.top.next
