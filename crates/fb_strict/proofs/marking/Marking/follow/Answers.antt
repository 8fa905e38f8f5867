use Rattle.std.proofs.Common.{◌≡◌, ℕ, ◌+◌, ◌-◌, ◌<◌, Some, slice_get, sym, ap, subst, refl, ◌∙◌, arith}
use Rattle.std.proofs.lemmas.Option.{slice_get-get_or}
use Rattle.fb_strict.specs.Leading.{IsOn, is_first, last_to}
use Rattle.fb_strict.proofs.Queues.{followed_none, followed_more, followed_all, spread_as}
use Rattle.fb_strict.proofs.marking.Marking.follow.Goals as goal

-- src/marking.rt
pub mark-requires-clause-within : goal.mark-requires-clause-within
mark-requires-clause-within g c =
    let edges = c.args.chains.now.edges.items in
    let p = c.loop-place.place in
    let e = c.index-edge.result.now in
    let low = c.loop-place.invariant.low in
    let at : p ≡ (p - 1) + 1 = omega (arith, c.loop-place-test.true) in
    let got : slice_get edges (p - 1) ≡ Some e = slice_get-get_or edges (p - 1) e (omega (arith, low, at)) ∙ ap Some (sym c.index-edge.ensures) in
    subst (λ m. e.from < m) (sym c.loop-place.invariant.grew.long) (c.requires.within e.from (c.loop-place.invariant.rest e.from (is_first p (p - 1) e at got refl)))

-- src/marking.rt
pub loop-place-smaller : goal.loop-place-smaller
loop-place-smaller g c =
    let edges = c.args.chains.now.edges.items in
    let p = c.loop-place.place in
    let e = c.index-edge.result.now in
    let low = c.loop-place.invariant.low in
    let at : p ≡ (p - 1) + 1 = omega (arith, c.loop-place-test.true) in
    let got : slice_get edges (p - 1) ≡ Some e = slice_get-get_or edges (p - 1) e (omega (arith, low, at)) ∙ ap Some (sym c.index-edge.ensures) in
    let back = c.requires.chained.goes_back (p - 1) e got in
    omega (arith, back, at)

-- src/marking.rt
pub loop-place-preserved : goal.loop-place-preserved
loop-place-preserved g c =
    let edges = c.args.chains.now.edges.items in
    let p = c.loop-place.place in
    let e = c.index-edge.result.now in
    let low = c.loop-place.invariant.low in
    let at : p ≡ (p - 1) + 1 = omega (arith, c.loop-place-test.true) in
    let got : slice_get edges (p - 1) ≡ Some e = slice_get-get_or edges (p - 1) e (omega (arith, low, at)) ∙ ap Some (sym c.index-edge.ensures) in
    followed_more (λ e k. k ≡ e) edges (last_to c.args.chains.now.lasts.items c.args.to) c.args.self.now.marks.items c.args.self.now.queue.items c.loop-place.self.marks.items c.loop-place.self.queue.items
    p c.loop-place.invariant (p - 1) e at got (c.requires.chained.goes_back (p - 1) e got) c.mark.new.self.marks.items c.mark.new.self.queue.items c.in_ok-mark.ensures

pub loop-place-init : goal.loop-place-init
loop-place-init g c =
    let lasts = c.args.chains.now.lasts.items in
    rw (c.last-place.ensures) (followed_none (λ e k. k ≡ e) c.args.chains.now.edges.items (last_to lasts c.args.to) c.args.self.now.marks.items c.args.self.now.queue.items c.requires.queue (c.requires.chained.begins c.args.to))

pub returns : goal.returns
returns g c =
    let edges = c.args.chains.now.edges.items in
    let top = last_to c.args.chains.now.lasts.items c.args.to in
    let marks = c.args.self.now.marks.items in
    let queue = c.args.self.now.queue.items in
    let all = followed_all (λ e k. k ≡ e) edges top marks queue c.loop-place.self.marks.items c.loop-place.self.queue.items c.loop-place.place c.loop-place.invariant (omega (arith, c.loop-place-test.false)) in
    spread_as (λ k. (e : ℕ) × IsOn edges e top × (k ≡ e)) (λ k. IsOn edges k top) marks queue c.loop-place.self.marks.items c.loop-place.self.queue.items (λ k led. subst (λ m. IsOn edges m top) (sym led.2) led.1) (λ k on. (k, on, refl)) all
