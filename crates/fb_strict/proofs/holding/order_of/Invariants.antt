use Rattle.std.proofs.Common.{◌≡◌, map, take}
use Rattle.fb_schema.specs.Sorting.{numbered}
use Rattle.fb_strict.specs.Holding.{field_of}
use Rattle.fb_strict.proofs.holding.order_of.Given as goal

abbrev pub invariant-loop-place : goal.invariant-loop-place
invariant-loop-place g l = l.order.items ≡ numbered 0 (map field_of (take l.place l.holdings))
