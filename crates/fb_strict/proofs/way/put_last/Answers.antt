use Rattle.std.proofs.Common.{◌≡◌, ◌≤◌, List, [], ◌∷◌, length, take, slice_set, refl, subst, arith}
use Rattle.fb_rules.specs.declared.{link.Link.Link}
use Rattle.fb_verify.specs.Stack.{links_left}
use Rattle.fb_strict.proofs.way.put_last.Goals as goal

-- one link is put
first : (xs : List Link) (x : Link) → 1 ≤ length xs → take 1 (slice_set xs 0 x) ≡ x ∷ []
first [] x h = absurd (omega (arith, h))
first (y ∷ ys) x h = refl

-- src/way.rt
pub returns-in-InField-Some-clause-links : goal.returns-in-InField-Some-clause-links
returns-in-InField-Some-clause-links c =
    let room = subst (λ last. links_left last ≤ length c.args.links.now) c.in-InField-Some.is-0 c.requires.room in
    rw (c.in-InField-Some.is-0, c.in-InField-Some.is-1) (first c.args.links.now _ room)
