use Rattle.std.proofs.Common.{◌≡◌}
use Rattle.fb_schema.specs.Targets.{place_below, place_among}
use Rattle.fb_schema.proofs.targets.sought.Given as goal

abbrev pub invariant-loop-place : goal.invariant-loop-place
invariant-loop-place l = record {
  same : place_below l.values l.value l.place ≡ place_among l.values l.value;
}
