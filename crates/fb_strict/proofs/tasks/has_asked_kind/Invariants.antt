use Rattle.std.proofs.Common.{◌≡◌, false, map, take}
use Rattle.std.specs.List.{list_any}
use Rattle.fb_schema.specs.Live.{Live, live_of_view}
use Rattle.fb_strict.specs.{Demanded.demanded, Skipped.is_kind_asked, Planned.all_wants}
use Rattle.fb_strict.proofs.tasks.has_asked_kind.Given as goal

abbrev pub invariant-loop-field : goal.invariant-loop-field
invariant-loop-field l = list_any (λ (f : Live). is_kind_asked (all_wants (demanded l.demands l.holdings) l.marks) l.schema f.kind) (map live_of_view (take l.field-index l.fields)) ≡ false
