use Rattle.std.proofs.Common.{◌≡◌, ◌≤◌, take, length, map, filter_map}
use Rattle.fb_schema.specs.{Live.live_of, Live.live_of_view, FlatRows.borrowed_rows, Rows.field_of}
use Rattle.fb_schema.proofs.live.views.Given as goal

abbrev pub invariant-loop-field : goal.invariant-loop-field
invariant-loop-field g l = record {
  value : map live_of_view l.views.items ≡ filter_map (live_of (borrowed_rows l.rows) (map field_of l.live)) (map field_of (take l.field-index l.live));
  long : length l.views.items ≡ l.field-index;
  few : l.field-index ≤ 32766;
}
