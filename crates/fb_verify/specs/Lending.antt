-- What a scratch ends as, once the walk that its frames were lent to is over.
use Rattle.std.specs.Prelude.{ℕ, List}
use Rattle.std.specs.{Borrow.Lends, Borrow.MutBor, Borrow.Fml, Borrow.RattleType, Borrow.Array, declared.alloc.Allocator.Ghosts}
use Rattle.fb_verify.specs.{contracts.scratch.Frame.the_row as frame_row, contracts.scratch.Scratch.the_row as scratch_row, declared.scratch.Frame.Frame}

-- as many levels as before, whatever the walk left in the frames
abbrev pub LendsFrames : (A : RattleType) → Ghosts A.Denot → MutBor ℕ → MutBor (List Frame) → Fml
LendsFrames A alloc s r = Lends (scratch_row A alloc) (Array frame_row 0) s r (λ _. s.now)
