use Rattle.std.proofs.Common.{◌<◌, ◌≤◌, max, length}
use Rattle.fb_schema.proofs.OrderLemmas.{IsLeast}
use Rattle.fb_schema.proofs.sorting.first_again.Given as goal

abbrev pub invariant-loop-i : goal.invariant-loop-i
invariant-loop-i g l = (0 < l.i) × IsLeast g.K.Ord.cmp l.order l.i l.first × (l.i ≤ max 1 (length l.order))
