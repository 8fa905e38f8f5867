use Rattle.std.proofs.Common.{◌≡◌, ℕ, ◌+◌, ◌-◌, ◌<◌, Some, slice_get, sym, ap, subst, refl, ◌∙◌, arith}
use Rattle.std.proofs.lemmas.Option.{slice_get-get_or}
use Rattle.fb_strict.specs.Leading.{IsOn, IsFrom, is_first, last_to}
use Rattle.fb_strict.proofs.Queues.{followed_none, followed_more, followed_all, spread_as}
use Rattle.fb_strict.proofs.marking.Marking.follow_members.Goals as goal

-- src/marking.rt
pub loop-place-init : goal.loop-place-init
loop-place-init g c =
    rw (c.last-place.ensures) (followed_none (λ e k. IsFrom c.args.leads.now.unions.lasts.items c.args.leads.now.unions.edges.items k e) c.args.leads.now.members.edges.items (last_to c.args.leads.now.members.lasts.items c.args.to) c.args.self.now.marks.items c.args.self.now.queue.items c.requires.queue (c.requires.members.begins c.args.to))

pub follow-requires-clause-within : goal.follow-requires-clause-within
follow-requires-clause-within g c =
    let edges = c.args.leads.now.members.edges.items in
    let p = c.loop-place.place in
    let e = c.index-edge.result.now in
    let low = c.loop-place.invariant.low in
    let at : p ≡ (p - 1) + 1 = omega (arith, c.loop-place-test.true) in
    let got : slice_get edges (p - 1) ≡ Some e = slice_get-get_or edges (p - 1) e (omega (arith, low, at)) ∙ ap Some (sym c.index-edge.ensures) in
    λ k on. subst (λ m. k < m) (sym c.loop-place.invariant.grew.long) (c.requires.within k e.from on (c.loop-place.invariant.rest e.from (is_first p (p - 1) e at got refl)))

pub follow-requires-clause-queue : goal.follow-requires-clause-queue
follow-requires-clause-queue g c = c.loop-place.invariant.grew.queued

pub loop-place-smaller : goal.loop-place-smaller
loop-place-smaller g c =
    let edges = c.args.leads.now.members.edges.items in
    let p = c.loop-place.place in
    let e = c.index-edge.result.now in
    let low = c.loop-place.invariant.low in
    let at : p ≡ (p - 1) + 1 = omega (arith, c.loop-place-test.true) in
    let got : slice_get edges (p - 1) ≡ Some e = slice_get-get_or edges (p - 1) e (omega (arith, low, at)) ∙ ap Some (sym c.index-edge.ensures) in
    let back = c.requires.members.goes_back (p - 1) e got in
    omega (arith, back, at)

pub loop-place-preserved : goal.loop-place-preserved
loop-place-preserved g c =
    let edges = c.args.leads.now.members.edges.items in
    let p = c.loop-place.place in
    let e = c.index-edge.result.now in
    let low = c.loop-place.invariant.low in
    let at : p ≡ (p - 1) + 1 = omega (arith, c.loop-place-test.true) in
    let got : slice_get edges (p - 1) ≡ Some e = slice_get-get_or edges (p - 1) e (omega (arith, low, at)) ∙ ap Some (sym c.index-edge.ensures) in
    followed_more (λ e k. IsFrom c.args.leads.now.unions.lasts.items c.args.leads.now.unions.edges.items k e) edges (last_to c.args.leads.now.members.lasts.items c.args.to) c.args.self.now.marks.items c.args.self.now.queue.items c.loop-place.self.marks.items c.loop-place.self.queue.items
    p c.loop-place.invariant (p - 1) e at got (c.requires.members.goes_back (p - 1) e got) c.follow.new.self.marks.items c.follow.new.self.queue.items c.in_ok-follow.ensures

pub returns : goal.returns
returns g c =
    let edges = c.args.leads.now.members.edges.items in
    let top = last_to c.args.leads.now.members.lasts.items c.args.to in
    let marks = c.args.self.now.marks.items in
    let queue = c.args.self.now.queue.items in
    let all = followed_all (λ e k. IsFrom c.args.leads.now.unions.lasts.items c.args.leads.now.unions.edges.items k e) edges top marks queue c.loop-place.self.marks.items c.loop-place.self.queue.items c.loop-place.place c.loop-place.invariant (omega (arith, c.loop-place-test.false)) in
    spread_as (λ k. (e : ℕ) × IsOn edges e top × IsFrom c.args.leads.now.unions.lasts.items c.args.leads.now.unions.edges.items k e) (λ k. (e : ℕ) × IsFrom c.args.leads.now.unions.lasts.items c.args.leads.now.unions.edges.items k e × IsOn edges e top) marks queue
    c.loop-place.self.marks.items c.loop-place.self.queue.items (λ k led. (led.0, led.2, led.1)) (λ k led. (led.0, led.2, led.1)) all
