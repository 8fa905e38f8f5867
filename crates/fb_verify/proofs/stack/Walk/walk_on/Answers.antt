use Rattle.std.proofs.Common.{◌≡◌, ℕ, ◌^◌, ◌<◌, List, sym, arith}
use Rattle.fb_bytes.specs.Word.{Lent}
use Rattle.fb_verify.specs.{Stack.IsWalking, Stack.Origin, Turns.IsShort, declared.scratch.Frame.Frame, declared.stack.Walk.Walk}
use Rattle.fb_verify.proofs.Turning.{begins}
use Rattle.fb_verify.proofs.stack.Walk.walk_on.Goals as goal

-- the reads that are lent are those of the loan, and not many
lent_short : (w : Walk) (s : Origin) (below : List Frame) (top : Frame) (m : Lent) {n : Lent} {r : ℕ} → n ≡ m → r < 2 ^ 56 → r ≡ m.count → IsWalking w m s below top → IsWalking w n s below top × IsShort n.count
lent_short w s below top m lent few same h = rw lent (h, omega (arith, few, same))

pub walk_by-turn-requires : goal.walk_by-turn-requires
walk_by-turn-requires g c =
    let lent = lent_short c.args.self.now _ _ _ _ c.lend-reads.ensures.lent (c.allows_short.ensures.short c.if-not-allows_short.false) c.reads.ensures.count c.requires.0 in
    (lent.0, (c.requires.1, (lent.1, sym (c.are_published.ensures c.if-are_published.true))))

pub walk_by_checks-turn-requires : goal.walk_by_checks-turn-requires
walk_by_checks-turn-requires g c =
    let lent = lent_short c.args.self.now _ _ _ _ c.lend-reads.ensures.lent (c.allows_short.ensures.short c.if-not-allows_short.false) c.reads.ensures.count c.requires.0 in
    (lent.0, (c.requires.1, lent.1))

pub returns-then-not-allows_short : goal.returns-then-not-allows_short
returns-then-not-allows_short g c = begins c.requires.0 c.requires.1
