use Rattle.std.proofs.Common.{◌≡◌, List, ℕ, ◌++◌, length}
use Rattle.fb_access.proofs.Words.{AreSoFar}
use Rattle.fb_access.proofs.pieces.cut_number.Given as goal

-- digits before what is left are the number so far
abbrev pub invariant-loop-byte : goal.invariant-loop-byte
invariant-loop-byte l = (ds : List ℕ) × AreSoFar ds l.number × (l.text ≡ ds ++ l.left)

-- each byte shortens what is left
abbrev pub decreases-loop-byte : goal.decreases-loop-byte
decreases-loop-byte l = length l.left
