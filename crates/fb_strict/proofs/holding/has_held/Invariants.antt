use Rattle.std.proofs.Common.{◌≡◌, false, map, take}
use Rattle.std.specs.Prelude.{is_some}
use Rattle.std.specs.List.{list_any}
use Rattle.fb_schema.specs.Live.{Live, live_of_view}
use Rattle.fb_strict.specs.{Demanded.held_by, Holding.held_in}
use Rattle.fb_strict.proofs.holding.has_held.Given as goal

abbrev pub invariant-loop-field : goal.invariant-loop-field
invariant-loop-field l = list_any (λ (f : Live). is_some (held_by (held_in l.holdings l.object f.slot) f.kind)) (map live_of_view (take l.field-index l.fields)) ≡ false
