use Rattle.std.proofs.Common.{rules, of_calls, sym, ◌∙◌}
use Rattle.std.proofs.lemmas.Fn.{always_returns_same}
use Rattle.fb_schema.proofs.NextRequired.{item_lent, no_item_lent}
use Rattle.fb_strict.specs.Holding.{is_before}
use Rattle.fb_strict.proofs.HeldOrder.{found, missed, past_all, parts}
use Rattle.fb_strict.proofs.holding.first_place.Goals as goal

-- src/holding.rt
pub returns-in_default : goal.returns-in_default
returns-in_default c = λ fields h.
    past_all fields c.args.order.now h c.args.object c.args.slot c.partition_point-first.result
    (c.partition_point-first.ensures.partitioned (is_before c.args.object c.args.slot) (always_returns_same _ _ _ (λ a r f k. search (rules, of_calls))) (parts fields c.args.order.now h c.args.object c.args.slot))
    (no_item_lent c.args.order.now c.partition_point-first.result c.get.result c.get.ensures.lookup c.in_default.is)

pub returns-then-is_of : goal.returns-then-is_of
returns-then-is_of c = λ fields h.
    found fields c.args.order.now h c.args.object c.args.slot c.partition_point-first.result
    (c.partition_point-first.ensures.partitioned (is_before c.args.object c.args.slot) (always_returns_same _ _ _ (λ a r f k. search (rules, of_calls))) (parts fields c.args.order.now h c.args.object c.args.slot))
    c.in-Some.entry.now (item_lent c.args.order.now c.partition_point-first.result c.get.result c.in-Some.entry c.get.ensures.lookup c.in-Some.is) (sym c.is_of.ensures ∙ c.if-is_of.true)

pub returns : goal.returns
returns c = λ fields h.
    missed fields c.args.order.now h c.args.object c.args.slot c.partition_point-first.result
    (c.partition_point-first.ensures.partitioned (is_before c.args.object c.args.slot) (always_returns_same _ _ _ (λ a r f k. search (rules, of_calls))) (parts fields c.args.order.now h c.args.object c.args.slot))
    c.in-Some.entry.now (item_lent c.args.order.now c.partition_point-first.result c.get.result c.in-Some.entry c.get.ensures.lookup c.in-Some.is) (sym c.is_of.ensures ∙ c.if-is_of.false)
