use Rattle.std.proofs.Common.{◌≡◌, ◌++◌, take}
use Rattle.std.specs.List.{flat_map}
use Rattle.fb_access.specs.Location.{filled, link_text, mark_behind}
use Rattle.fb_access.proofs.location.put_links.Given as goal

abbrev pub invariant-loop-link : goal.invariant-loop-link
invariant-loop-link l = l.text.items ≡ filled l.initial.text.items (flat_map (λ x. link_text l.schema x ++ mark_behind l.schema x) (take l.link-index l.links))
