use Rattle.std.proofs.Common.{◌≡◌, false, map, take}
use Rattle.std.specs.List.{list_any}
use Rattle.fb_bfbs.specs.Marks.{marked}
use Rattle.fb_strict.specs.Holding.{holdings_in, is_lost}
use Rattle.fb_strict.proofs.holding.holdings_in.Given as goal

-- what the marks so far say
abbrev pub invariant-loop-mark : goal.invariant-loop-mark
invariant-loop-mark g l = record {
  made : l.holdings.items ≡ holdings_in l.schema (map marked (take l.mark-index l.marks));
  found : list_any (is_lost l.schema) (map marked (take l.mark-index l.marks)) ≡ false;
}
