use Rattle.std.proofs.Common.{◌≡◌, ◌==◌, drop, find, map}
use Rattle.fb_schema.specs.Live.{live_of_view}
use Rattle.fb_access.proofs.field.first_numbered.Given as goal

-- the fields that are left give what all give
abbrev pub invariant-loop-field : goal.invariant-loop-field
invariant-loop-field l = record {
  rest : find (λ f. f.number == l.number) (map live_of_view (drop l.field-index l.fields)) ≡ find (λ f. f.number == l.number) (map live_of_view l.fields);
}
