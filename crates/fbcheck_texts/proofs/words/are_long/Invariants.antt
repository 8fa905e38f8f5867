use Rattle.std.proofs.Common.{◌≡◌, length, map, nat_lt, string_bytes}
use Rattle.fbcheck_texts.specs.Given.{steps_of}
use Rattle.fbcheck_texts.proofs.words.are_long.Given as goal

-- the paths that are left have more steps than are left if all have more than may be
abbrev pub invariant-loop-path : goal.invariant-loop-path
invariant-loop-path l = nat_lt l.left (steps_of (map string_bytes l.rest)) ≡ nat_lt 1024 (steps_of (map string_bytes l.paths))

abbrev pub decreases-loop-path : goal.decreases-loop-path
decreases-loop-path l = length l.rest
