use Rattle.std.proofs.Common.{◌≡◌, ◌+◌, take, sum_by}
use Rattle.fb_bfbs.proofs.taking.all_leave.Given as goal

abbrev pub invariant-loop-item : goal.invariant-loop-item
invariant-loop-item g l = l.rest + sum_by g.T.Takes.takes (take l.item-index l.items) ≡ l.fn.left
