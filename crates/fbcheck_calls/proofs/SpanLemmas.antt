-- What holds of two lists at each place below i, and of their items at i, holds of those below i + 1.
use Rattle.std.proofs.Common.{ℕ, ◌+◌, ◌<◌, ◌≢◌, List, length, get_or, get_or-set_other, get_or-set_same, below_more, arith}
use Rattle.std.proofs.Math.ListN.{set}

pub one_more : {X Y : Type 0} (R : X → Y → Type 0) (xs : List X) (ys : List Y) (i : ℕ) (y : Y) → i < length ys
    → ((k : ℕ) → k < i → k < length ys → (s : X) (d : Y) → R (get_or xs k s) (get_or ys k d))
    → ((s : X) → R (get_or xs i s) y)
    → (k : ℕ) → k < i + 1 → k < length (set ys i y) → (s : X) (d : Y) → R (get_or xs k s) (get_or (set ys i y) k d)
one_more {X} {Y} R xs ys i y within below here =
    below_more (λ k. k < length (set ys i y) → (s : X) (d : Y) → R (get_or xs k s) (get_or (set ys i y) k d)) i
    (λ k h _ s d. let ne : k ≢ i = omega arith in rw (get_or-set_other ys i k y d ne) (below k h (omega arith) s d))
    (λ _ s d. rw (get_or-set_same ys i y d within) (here s))
