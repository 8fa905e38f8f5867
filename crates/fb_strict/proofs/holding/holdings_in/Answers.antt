use Rattle.std.proofs.Common.{sym, ap, ◌∙◌, map}
use Rattle.fb_bfbs.specs.Marks.{marked}
use Rattle.fb_strict.specs.Holding.{holding_of, is_lost, IsPlanFault}
use Rattle.fb_strict.proofs.{Lists.keeps, Lists.leaves_out, Lists.none_yet, Holds.lost_at, Holds.item_made, Holds.err_told}
use Rattle.fb_strict.proofs.holding.holdings_in.Goals as goal
use Rattle.fb_strict.proofs.holding.holdings_in.Goals.{in-Some+in_ok-put, in_default}

-- src/holding.rt
pub returns-in_err-holding-clause-lost : goal.returns-in_err-holding-clause-lost
returns-in_err-holding-clause-lost g c =
    let S = c.args.schema.now in
    let ms = map marked c.args.marks.now in
    err_told c.from_residual.result c.in_err-holding.field-0.0 (IsPlanFault S ms) c.from_residual.ensures.1 (lost_at S ms c.loop-mark.mark-index _ (item_made marked c.args.marks.now c.loop-mark.mark-index _ c.loop-mark-test.true) _ c.in_err-holding.ensures.lost)

pub loop-mark-preserved : goal.loop-mark-preserved
loop-mark-preserved g c =
    let S = c.args.schema.now in
    let marks = c.args.marks.now in
    let i = c.loop-mark.mark-index in
    let lt = c.loop-mark-test.true in
    let so-far = c.loop-mark.invariant in
    let its = sym c.in_ok-holding.ensures.holding in
    record {
      made = elim c.match-branch-2.branch [
        | in-Some+in_ok-put w ↦ keeps marked (holding_of S) marks i _ c.loop-mark.holdings.items _ _ lt so-far.made (ap (λ v. v.items) w.holdings-is ∙ w.in_ok-put.ensures) (its ∙ w.in-Some.is)
        | in_default w ↦ ap (λ v. v.items) w.holdings-is ∙ leaves_out marked (holding_of S) marks i _ c.loop-mark.holdings.items lt so-far.made (its ∙ w.in_default.is)
      ];
      found = none_yet marked (is_lost S) marks i _ lt so-far.found c.in_ok-holding.ensures.found;
    }
