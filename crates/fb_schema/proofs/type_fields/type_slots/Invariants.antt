use Rattle.std.proofs.Common.{◌≡◌, ◌==◌, ◌+◌, ℕ, map, take}
use Rattle.std.specs.List.{list_any}
use Rattle.fb_schema.specs.{Rows.field_of, Demands.stands_below}
use Rattle.fb_schema.proofs.type_fields.type_slots.Given as goal

abbrev pub invariant-loop-field : goal.invariant-loop-field
invariant-loop-field g l = (slot : ℕ) → list_any (λ s. s + 2 == slot) l.slots.items ≡ stands_below l.wanted (map field_of (take l.field-index l.fields)) slot
