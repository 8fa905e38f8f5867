use Rattle.std.proofs.Common.{◌^◌}
use Rattle.fb_schema.proofs.FewLemmas.{below_step, one_beyond}
use Rattle.fb_schema.proofs.few.own_few.Goals as goal

pub returns-then-rows-ge-MANY : goal.returns-then-rows-ge-MANY
returns-then-rows-ge-MANY g c = one_beyond g.O.Owner.count (2 ^ 31) c.args.owners.now c.loop-owner.owner-index c.owner-item.result _ c.loop-owner-test.true c.owner-item.is c.rows.ensures.count c.if-rows-ge-MANY.true

pub loop-owner-preserved : goal.loop-owner-preserved
loop-owner-preserved g c = below_step g.O.Owner.count (2 ^ 31) c.args.owners.now c.loop-owner.owner-index c.owner-item.result _ c.loop-owner-test.true c.owner-item.is c.loop-owner.invariant c.rows.ensures.count c.if-rows-ge-MANY.false
