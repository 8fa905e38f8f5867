use Rattle.std.proofs.Common.{◌≡◌, true, false, ap, sym, ◌∙◌, arith, is_eq}
use Rattle.std.specs.Cmp.{Equal-is}
use Rattle.fb_schema.proofs.{Numbers.get_or_default, OrderLemmas.least_apart, OrderLemmas.least_alike, OrderLemmas.least_first, OrderLemmas.neighbours}
use Rattle.fb_schema.proofs.sorting.first_again.Goals as goal
use Rattle.fb_schema.proofs.sorting.first_again.Goals.{then-eq, else-eq}

pub loop-i-preserved : goal.loop-i-preserved
loop-i-preserved g c =
    let R = g.K.Ord.cmp in
    let order = c.args.order.now in
    let i = c.loop-i.i in
    let x = c.index-order-i.result in
    let y = c.index-order-i-in-loop-i.result in
    let pos = c.loop-i.invariant.0 in
    let test : c.eq.result ≡ is_eq (R x.0 y.0) = c.eq.ensures ∙ g.met.K.Ord.matches_eq x.0 y.0 in
    let near = neighbours R order i x y pos c.loop-i-test.true c.index-order-i.is c.index-order-i-in-loop-i.is in (
      omega arith,
      elim c.if-eq.branch [
        | then-eq w ↦ rw w.first-is (least_alike R order i w.least.result y.1 c.loop-i.first pos
            (λ d. near d ∙ (Equal-is (R x.0 y.0)).0 (sym test ∙ w.if-eq.true))
            (λ d. ap (λ (p : _ × _). p.1) (c.index-order-i-in-loop-i.is ∙ get_or_default order i y d c.loop-i-test.true))
            w.least.ensures c.loop-i.invariant.1)
        | else-eq w ↦ rw w.first-is (least_apart R order i c.loop-i.first pos
            (λ d a. let e : true ≡ false = sym ((Equal-is (R x.0 y.0)).1 (sym (near d) ∙ a)) ∙ sym test ∙ w.if-eq.false in cc) c.loop-i.invariant.1)
      ],
      omega arith,
    )

pub returns : goal.returns
returns g c = λ keys h. least_first g.K.Ord.cmp g.met.K.Ord.total keys c.args.order.now h c.loop-i.i c.loop-i.first c.loop-i-test.false c.loop-i.invariant.2 c.loop-i.invariant.1
