use Rattle.std.proofs.Common.{take}
use Rattle.fb_access.specs.Cutting.{GoOn}
use Rattle.fb_access.proofs.pieces.split_word.Given as goal

-- the word goes on up to here
abbrev pub invariant-loop-at : goal.invariant-loop-at
invariant-loop-at l = GoOn (take l.at l.text)
