use Rattle.std.proofs.Common.{◌≡◌, map, take}
use Rattle.fb_schema.specs.{Live.live_of_view, Steps.are_plain, Steps.are_small}
use Rattle.fb_schema.proofs.steps.sorts_of.Given as goal

-- what holds of the fields before the next one
abbrev pub invariant-loop-field : goal.invariant-loop-field
invariant-loop-field l = record {
  plain : l.plain ≡ are_plain (map live_of_view (take l.field-index l.fields));
  small : l.small ≡ are_small (map live_of_view (take l.field-index l.fields));
}
