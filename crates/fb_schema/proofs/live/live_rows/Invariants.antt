use Rattle.std.proofs.Common.{◌≡◌, take, filter}
use Rattle.fb_schema.specs.{Live.is_live, Rows.field_of}
use Rattle.fb_schema.proofs.live.live_rows.Given as goal

abbrev pub invariant-loop-field : goal.invariant-loop-field
invariant-loop-field g l = l.live.items ≡ filter (λ f. is_live (field_of f)) (take l.field-index l.fields)
