use Rattle.std.proofs.Common.{◌≡◌, ◌≤◌, List, length, ◌*◌, All}
use Rattle.fb_access.specs.{declared.step.Step.Step, Held.Placed}
use Rattle.fb_bfbs.specs.Seen.{seen, Within, behind}
use Rattle.fb_bfbs.proofs.Composed.{AreRowsSoFar}
use Rattle.fb_bfbs.proofs.lists.rows_at.Given as goal

-- the rows so far are the first elements
abbrev pub invariant-loop-j : goal.invariant-loop-j
invariant-loop-j g l = record {
  place : l.place ≡ l.fn.place;
  count : length l.rows.items ≡ l.j;
  within : l.j ≤ l.count;
  rows : (p : Placed) (way : List Step) → Within (seen l.place) (behind (seen p) way) → AreRowsSoFar g.R.FromTable.is_row (behind (seen p) way) l.rows.items;
  few : All (λ r. 4 * g.R.FromTable.listed r ≤ length (l.place.sealed).bytes) l.rows.items;
}
