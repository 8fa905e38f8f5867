use Rattle.std.proofs.Common.{List, ℕ, Option, Bor}
use Rattle.fb_access.specs.Cutting.{IsNext, IsRead}
use Rattle.fb_access.proofs.Following.{left_of}
use Rattle.fb_access.proofs.pieces.wrong_from.Given as goal

-- the text is read as what is left of it is
abbrev pub invariant-loop-next : goal.invariant-loop-next
invariant-loop-next l = (left : List ℕ) × IsNext left l.next × ((bad : Option (Bor (List ℕ))) → IsRead left bad → IsRead l.text bad)

-- each part shortens what is left
abbrev pub decreases-loop-next : goal.decreases-loop-next
decreases-loop-next l = left_of l.next
