use Rattle.std.proofs.Common.{◌≡◌, ◌<◌, ℕ, false, bytes_eq, get_or}
use Rattle.fb_schema.specs.declared.rows.FieldRow.{FieldRow}
use Rattle.fb_schema.proofs.schema.Schema.part_named.Given as goal

-- no field before has the name
abbrev pub invariant-loop-place : goal.invariant-loop-place
invariant-loop-place g l = (k : ℕ) (d : FieldRow) → k < l.place → bytes_eq (get_or l.fields k d).name.now l.name ≡ false
