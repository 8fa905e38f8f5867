use Rattle.std.proofs.Common.{◌≡◌, drop, find, map, bytes_eq}
use Rattle.fb_bfbs.specs.Tags.{attribute_of}
use Rattle.fb_bfbs.proofs.attributes.value_of.Given as goal

-- the attributes that are left give what all give
abbrev pub invariant-loop-attribute : goal.invariant-loop-attribute
invariant-loop-attribute l = find (λ a. bytes_eq a.key l.key) (map attribute_of (drop l.attribute-index l.attributes)) ≡ find (λ a. bytes_eq a.key l.key) (map attribute_of l.attributes)
