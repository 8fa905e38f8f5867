use Rattle.std.proofs.Common.{◌≡◌, map, take}
use Rattle.fb_schema.specs.Sorting.{numbered}
use Rattle.fb_schema.proofs.keys.in_order.Given as goal

abbrev pub invariant-loop-n : goal.invariant-loop-n
invariant-loop-n g l = l.order.items ≡ numbered 0 (map g.T.Keyed.key_of (take l.n l.items))
