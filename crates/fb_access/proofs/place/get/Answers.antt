use Rattle.std.proofs.Common.{arith, ◌∙◌, inl, refl, ap}
use Rattle.fb_schema.specs.declared.kinds.Kind.TheVariants.{Table}
use Rattle.fb_access.specs.Held.{Placed}
use Rattle.fb_access.proofs.Walks.{walked_allows_at, walked_more_at}
use Rattle.fb_access.proofs.place.get.Goals as goal

pub go-place-requires : goal.go-place-requires
go-place-requires g c =
    rw c.loop-step.invariant.same (walked_allows_at _ _ _ _ _ _ _ (omega arith) c.loop-step.invariant.walked)

pub loop-step-init : goal.loop-step-init
loop-step-init g c = record {
  steps = c.steps-step-items.ensures;
  same = ap (λ (p : Placed). p.sealed) c.at_root-place.ensures;
  walked = rw (c.steps-step-items.ensures, c.at_root-place.ensures) (record { reached = refl; kind = Table c.args.verified.now.root; is = inl refl; fits = c.requires });
}

pub loop-step-preserved : goal.loop-step-preserved
loop-step-preserved g c = record {
  steps = c.loop-step.invariant.steps;
  same = c.go-place.ensures.same ∙ c.loop-step.invariant.same;
  walked = walked_more_at _ _ _ _ _ _ _ _ (omega arith) c.loop-step.invariant.walked (rw c.loop-step.invariant.same at c.go-place.ensures.leads);
}
