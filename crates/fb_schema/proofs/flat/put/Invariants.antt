use Rattle.std.proofs.Common.{◌≡◌, All, map, take, length}
use Rattle.fb_schema.specs.Flat.{part, IsPart}
use Rattle.fb_schema.proofs.flat.put.Given as goal

abbrev pub invariant-loop-owner : goal.invariant-loop-owner
invariant-loop-owner g l = record {
  value : map (λ p. g.O.Owner.with_rows p (part l.rows.items (g.O.Owner.range_of p))) l.parts.items ≡ map g.O.Owner.whole (take l.owner-index l.owners);
  parts : All (λ p. IsPart (length l.rows.items) (g.O.Owner.range_of p)) l.parts.items;
}
