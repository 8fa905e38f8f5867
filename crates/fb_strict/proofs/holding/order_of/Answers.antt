use Rattle.std.proofs.Common.{◌≡◌, ◌<◌, ◌+◌, ◌++◌, ◌∷◌, [], ℕ, List, get_or, length, map, take, take_all, ap, ◌∙◌, subst}
use Rattle.std.specs.Prelude.{IsPermutation}
use Rattle.fb_schema.specs.Sorting.{numbered}
use Rattle.fb_schema.proofs.KeyLemmas.{numbered_more}
use Rattle.fb_strict.specs.{declared.holding.Holding.Holding, Holding.Slotted, Holding.field_of}
use Rattle.fb_strict.proofs.holding.order_of.Goals as goal

-- one holding more, with its field
more : (hs : List Holding) (n : ℕ) (d : Holding) (e : Slotted × ℕ) (old new : List (Slotted × ℕ)) → n < length hs → old ≡ numbered 0 (map field_of (take n hs)) → new ≡ old ++ e ∷ [] → e ≡ (field_of (get_or hs n d), n)
    → new ≡ numbered 0 (map field_of (take (n + 1) hs))
more hs n d e old new lt before grown made = grown ∙ ap (λ x. old ++ x ∷ []) made ∙ numbered_more field_of hs n d old lt before

-- src/holding.rt
pub loop-place-preserved : goal.loop-place-preserved
loop-place-preserved g c = more c.args.holdings.now c.loop-place.place _ c.entry_of.result c.loop-place.order.items _ c.loop-place-test.true c.loop-place.invariant c.in_ok-push.ensures.items c.entry_of.ensures

pub returns : goal.returns
returns g c =
    let hs = c.args.holdings.now in
    let all = c.loop-place.invariant ∙ ap (λ xs. numbered 0 (map field_of xs)) (take_all c.loop-place.place hs c.loop-place-test.false) in
    record { same = subst (λ order. IsPermutation order c.sort_unstable.new.self.items) all c.sort_unstable.ensures.permutation; rises = c.sort_unstable.ensures.sorted }
