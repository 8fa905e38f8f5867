use Rattle.std.proofs.Common.{sym, ◌∙◌, ◌-◌, ◌<◌, arith, refl}
use Rattle.fb_strict.proofs.Holds.{past, not_there, there, by_itself, are_equal, are_not, found_none}
use Rattle.fb_strict.proofs.holding.found_from.Goals as goal
use Rattle.fb_strict.proofs.holding.found_from.Goals.{then-owner-around-eq46+in_ok-found+else-is_some, else-owner-around-eq46}

-- src/holding.rt
pub returns-then-is_some : goal.returns-then-is_some
returns-then-is_some g c =
    let n = c.loop-around.around in
    sym (c.loop-around.invariant.same ∙ there c.args.schema.now c.args.owner.now c.args.name.now n (n - 1) c.in_ok-found.found (omega (arith, c.loop-around-test.true)) refl (are_equal _ _ c.if-owner-around-eq46.true) (sym c.in_ok-found.ensures) (sym c.is_some.ensures ∙ c.if-is_some.true))

pub loop-around-preserved : goal.loop-around-preserved
loop-around-preserved g c =
    let n = c.loop-around.around in
    let S = c.args.schema.now in
    let owner = c.args.owner.now in
    let name = c.args.name.now in
    let some : 0 < n = omega (arith, c.loop-around-test.true) in
    record {
      within = omega (arith, c.loop-around.invariant.within);
      same = c.loop-around.invariant.same ∙ elim c.if-owner-around-eq46.branch [
        | then-owner-around-eq46+in_ok-found+else-is_some w ↦ not_there S owner name n (n - 1) some refl (are_equal _ _ w.if-owner-around-eq46.true) (sym w.in_ok-found.ensures ∙ found_none w.in_ok-found.found _ w.is_some.ensures w.if-is_some.false)
        | else-owner-around-eq46 w ↦ past S owner name n (n - 1) some refl (are_not _ _ w.if-owner-around-eq46.false)
      ];
    }

pub returns : goal.returns
returns g c =
    c.table_named.ensures.number ∙ sym (c.loop-around.invariant.same ∙ by_itself c.args.schema.now c.args.owner.now c.args.name.now c.loop-around.around (omega (arith, c.loop-around-test.false)))
