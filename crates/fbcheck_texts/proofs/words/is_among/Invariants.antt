use Rattle.std.proofs.Common.{◌≡◌, length, map, string_bytes}
use Rattle.fbcheck_texts.specs.Given.{is_among}
use Rattle.fbcheck_texts.proofs.words.is_among.Given as goal

-- it stands among the texts that are left, if at all
abbrev pub invariant-loop-first : goal.invariant-loop-first
invariant-loop-first l = is_among (map string_bytes l.rest) l.text ≡ is_among (map string_bytes l.texts) l.text

abbrev pub decreases-loop-first : goal.decreases-loop-first
decreases-loop-first l = length l.rest
