use Rattle.std.proofs.Common.{◌≡◌, length, map, string_bytes}
use Rattle.std.specs.List.{list_any}
use Rattle.fbcheck_texts.specs.Given.{is_bfbs}
use Rattle.fbcheck_texts.proofs.words.has_bfbs.Given as goal

-- one is named so among those that are left, if at all
abbrev pub invariant-loop-name : goal.invariant-loop-name
invariant-loop-name l = list_any is_bfbs (map string_bytes l.rest) ≡ list_any is_bfbs (map string_bytes l.names)

abbrev pub decreases-loop-name : goal.decreases-loop-name
decreases-loop-name l = length l.rest
