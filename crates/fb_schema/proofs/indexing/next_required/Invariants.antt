use Rattle.std.proofs.Common.{◌≡◌, ◌<◌, ◌≤◌, ℕ, map, length, get_or}
use Rattle.fb_schema.specs.Live.{live_of_view}
use Rattle.fb_schema.proofs.NextRequired.{first_from}
use Rattle.fb_schema.proofs.indexing.next_required.Given as goal

abbrev pub invariant-loop-i : goal.invariant-loop-i
invariant-loop-i g l = record {
  long : length l.places.items ≡ length l.fields;
  next : l.next ≡ first_from (map live_of_view l.fields) l.i;
  filled : (k : ℕ) → l.i ≤ k → k < length l.fields → get_or l.places.items k 0 ≡ first_from (map live_of_view l.fields) k;
}
