use Rattle.std.proofs.Common.{◌≡◌, ◌≤◌, ◌<◌, ℕ, ℤ, pos, slice_index_or}
use Rattle.fb_schema.proofs.targets.end_of.Given as goal

-- no value so far is one from the bound on that a type can be
abbrev pub invariant-loop-value : goal.invariant-loop-value
invariant-loop-value l = record {
  low : 1 ≤ l.end;
  high : l.end ≤ 256;
  none : (v k : ℕ) (d : ℤ × ℕ) → l.end ≤ v → v < 256 → k < l.value-index → (slice_index_or l.values k d).0 ≡ pos v → ⊥;
}
