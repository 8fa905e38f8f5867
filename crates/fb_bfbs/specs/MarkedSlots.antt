-- The slots of marks, in order, by which the fields without a mark are found.
use Rattle.std.specs.Prelude.{◌≡◌, ◌==◌, ◌&&◌, not, ℕ, Bool, List, IsSorted}
use Rattle.std.specs.{List.list_any, Ordering.nat_cmp, Ordering.ordering_then, declared.cmp.Ordering.Ordering}
use Rattle.fb_schema.specs.Live.{Live}
use Rattle.fb_bfbs.specs.{Marks.Marked, ByteFields.has_mark, ByteFields.is_bytes}

-- slots by their objects, which stand before them
abbrev pub slot_cmp : ℕ × ℕ → ℕ × ℕ → Ordering
slot_cmp a b = ordering_then (nat_cmp a.0 b.0) (nat_cmp a.1 b.1)

-- one of these is this slot of an object
abbrev pub has_slot : List (ℕ × ℕ) → (object slot : ℕ) → Bool
has_slot slots object slot = list_any (λ (s : ℕ × ℕ). (s.0 == object) && (s.1 == slot)) slots

-- a live field of an object is of bytes, and has none of these slots
abbrev pub is_slotless : List (ℕ × ℕ) → ℕ → Live → Bool
is_slotless slots object f = is_bytes f.kind && not (has_slot slots object f.slot)

-- these are the slots of marks, in order
pub record AreSlots (marks : List Marked) (slots : List (ℕ × ℕ)) : Type 0 where
  pub rises : IsSorted slot_cmp slots
  pub same : (object slot : ℕ) → has_slot slots object slot ≡ has_mark marks object slot
