use Rattle.std.proofs.Common.{◌≡◌, ◌+◌, ◌≤◌, ◌++◌, drop, length}
use Rattle.fb_run.proofs.line.put_bytes.Given as goal

abbrev pub invariant-loop-left : goal.invariant-loop-left
invariant-loop-left g l =
    (length l.room ≡ 768) × (l.left ≤ g.row.N) × (l.start + g.row.N ≡ l.end + l.left) × (drop l.start l.room ≡ drop l.left l.text ++ drop l.end l.fn.room)

abbrev pub decreases-loop-left : goal.decreases-loop-left
decreases-loop-left g l = l.left
