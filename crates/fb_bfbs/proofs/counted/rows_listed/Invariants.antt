use Rattle.std.proofs.Common.{◌≡◌, ℕ, ◌*◌, ◌≤◌, List, length, sum_by}
use Rattle.fb_access.specs.{declared.step.Step.Step, Held.Placed}
use Rattle.fb_bfbs.specs.{Seen.seen, Seen.Within, Seen.behind, Sums.Lists, Sums.listed_rows}
use Rattle.fb_bfbs.proofs.Composed.{AreRowsSoFar}
use Rattle.fb_bfbs.proofs.counted.rows_listed.Given as goal

-- the rows so far are the first elements, with what they list
abbrev pub invariant-loop-j : goal.invariant-loop-j
invariant-loop-j l = record {
  place : l.place ≡ l.fn.place;
  within : l.j ≤ l.count;
  small : l.rows ≤ l.j * 4294967296;
  rows : (counts : List ℕ) × (length counts ≡ l.j) × (l.rows ≡ sum_by listed_rows counts) × ((p : Placed) (way : List Step) → Within (seen l.place) (behind (seen p) way) → AreRowsSoFar Lists (behind (seen p) way) counts);
}
