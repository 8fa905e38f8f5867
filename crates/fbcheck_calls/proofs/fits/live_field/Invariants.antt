use Rattle.std.proofs.Common.{◌≡◌, ◌==◌, drop, find, map}
use Rattle.fb_schema.specs.Live.{live_of_view, live_fields}
use Rattle.fb_access.specs.Fitting.{numbered}
use Rattle.fbcheck_calls.proofs.fits.live_field.Given as goal

-- the fields that are left give what all give
abbrev pub invariant-loop-field : goal.invariant-loop-field
invariant-loop-field l = record {
  items : map live_of_view l.field-items ≡ live_fields l.schema l.table;
  rest : find (λ f. f.number == l.number) (map live_of_view (drop l.field-index l.field-items)) ≡ numbered l.schema l.table l.number;
}
