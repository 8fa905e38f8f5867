use Rattle.std.proofs.Common.{◌≡◌, false, true, sym, subst, arith}
use Rattle.std.proofs.Math.ListN.{set}
use Rattle.fb_strict.specs.{Marking.Spread, Planned.marked}
use Rattle.fb_strict.proofs.Queues.{spread_one}
use Rattle.fb_strict.proofs.marking.Marking.mark.Goals as goal

-- src/marking.rt
pub returns-in_ok-push : goal.returns-in_ok-push
returns-in_ok-push g c =
    let marks = c.args.self.now.marks.items in
    let queue = c.args.self.now.queue.items in
    let is : marked marks c.args.object ≡ false = grind (arith, c.if-not-index.true, c.index.ensures) in
    subst (Spread (λ k. k ≡ c.args.object) marks queue (set marks c.args.object true)) (sym c.in_ok-push.ensures.items)
    (spread_one marks queue c.requires.queue c.args.object c.requires.within is)
