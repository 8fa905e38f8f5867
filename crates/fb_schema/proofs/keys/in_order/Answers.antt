use Rattle.std.proofs.Common.{◌≡◌, ◌<◌, ◌+◌, ℕ, List, ◌++◌, ◌∷◌, [], get_or, length, map, take, ap, ◌∙◌, take_all, subst}
use Rattle.std.specs.Prelude.{IsPermutation}
use Rattle.fb_schema.specs.Sorting.{numbered}
use Rattle.fb_schema.proofs.KeyLemmas.{numbered_more}
use Rattle.fb_schema.proofs.keys.in_order.Goals as goal

-- one item more, with its key
more : {X K : Type 0} (key_of : X → K) (items : List X) (n : ℕ) (item : X) (old new : List (K × ℕ)) (k : K) → n < length items → old ≡ numbered 0 (map key_of (take n items)) → new ≡ old ++ (k, n) ∷ [] → k ≡ key_of item → item ≡ get_or items n item
    → new ≡ numbered 0 (map key_of (take (n + 1) items))
more key_of items n item old new k lt before e given is = e ∙ ap (λ k. old ++ (k, n) ∷ []) (given ∙ ap key_of is) ∙ numbered_more key_of items n item old lt before

pub loop-n-preserved : goal.loop-n-preserved
loop-n-preserved g c = more g.T.Keyed.key_of c.args.items.now c.loop-n.n c.index-items-n.result c.loop-n.order.items _ c.key.result c.loop-n-test.true c.loop-n.invariant c.in_ok-push.ensures.items c.key.ensures c.index-items-n.is

pub returns : goal.returns
returns g c =
    let items = c.args.items.now in
    let all = c.loop-n.invariant ∙ ap (λ xs. numbered 0 (map g.T.Keyed.key_of xs)) (take_all c.loop-n.n items c.loop-n-test.false) in
    record { same = subst (λ order. IsPermutation order c.sort_unstable.new.self.items) all c.sort_unstable.ensures.permutation; rises = c.sort_unstable.ensures.sorted }
