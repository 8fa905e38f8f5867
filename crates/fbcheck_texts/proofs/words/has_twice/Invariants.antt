use Rattle.std.proofs.Common.{◌≡◌, length, map, string_bytes}
use Rattle.fbcheck_texts.specs.Given.{has_twice}
use Rattle.fbcheck_texts.proofs.words.has_twice.Given as goal

-- what stands twice stands so among the texts that are left
abbrev pub invariant-loop-text : goal.invariant-loop-text
invariant-loop-text l = has_twice (map string_bytes l.rest) ≡ has_twice (map string_bytes l.texts)

abbrev pub decreases-loop-text : goal.decreases-loop-text
decreases-loop-text l = length l.rest
