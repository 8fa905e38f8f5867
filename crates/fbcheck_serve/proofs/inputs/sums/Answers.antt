use Rattle.std.proofs.Common.{◌∙◌, ap, arith, length, rules, sym}
use Rattle.fbcheck_serve.proofs.InputsLemmas.{all_summed, sum_at, sums_length}
use Rattle.fbcheck_serve.proofs.inputs.sums.Goals as goal

pub loop-place-preserved : goal.loop-place-preserved
loop-place-preserved c =
    sum_at c.args.some.now c.args.more.now c.loop-place.counts c.loop-place.place _ (omega (arith, c.requires.some, c.loop-place-test.true)) (c.requires.some ∙ sym c.requires.more)
    c.loop-place.invariant (search rules)

pub returns-clause-sums : goal.returns-clause-sums
returns-clause-sums c =
    c.loop-place.invariant ∙ all_summed c.args.some.now c.args.more.now c.loop-place.place (omega (arith, c.requires.some, c.loop-place-test.false))

pub returns-clause-places : goal.returns-clause-places
returns-clause-places c =
    ap length (c.loop-place.invariant ∙ all_summed c.args.some.now c.args.more.now c.loop-place.place (omega (arith, c.requires.some, c.loop-place-test.false)))
    ∙ sums_length c.args.some.now c.args.more.now ∙ c.requires.some
