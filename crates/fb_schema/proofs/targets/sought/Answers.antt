use Rattle.std.proofs.lemmas.Grind.{common_steps}
use Rattle.std.proofs.Common.{suc, ◌≡◌, ◌-◌, sym, ◌∙◌, arith, rules}
use Rattle.fb_schema.proofs.TargetLemmas.{stopped_here}
use Rattle.fb_schema.proofs.targets.sought.Goals as goal

pub returns-then-found-value : goal.returns-then-found-value
returns-then-found-value c =
    let place = c.loop-place.place in
    let next : place ≡ suc (place - 1) = omega (arith, c.loop-place-test.true) in
    sym (stopped_here c.args.values.now c.args.value (place - 1) place next c.if-found-value.true) ∙ c.loop-place.invariant.same

pub returns-then-found-value-2 : goal.returns-then-found-value-2
returns-then-found-value-2 c = search rules

pub loop-place-preserved : goal.loop-place-preserved
loop-place-preserved c = grind (arith, common_steps)
